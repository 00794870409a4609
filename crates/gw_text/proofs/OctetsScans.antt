-- What the scans of octets and of quoted texts answer.
use Rattle.std.proofs.Common.{◌≡◌, ℕ, ◌+◌, ◌≤◌, Bool, true, false, cond, not, ◌==◌, ◌||◌, List, [], ◌∷◌, ◌++◌, length, take, drop, Option, Some, None, Result, Ok, Err, refl, ap, sym, subst, ◌∙◌, append_assoc, length-append, arith, ◌<◌}
use Rattle.std.proofs.lemmas.List.{take-append-drop, take-append-le, take_at, drop_at, length-take}
use Rattle.std.proofs.lemmas.Bool.{eqb-true}
use Rattle.gw_text.specs.Lexical.{right_brace, quote_mark, backslash, is_blank}
use Rattle.gw_text.specs.Runs.{begins, is_byte, run_len}
use Rattle.gw_text.specs.Octets.{IsOctets, IsTrimmed, IsOctetsOf}
use Rattle.gw_text.specs.OctetsScan.{octets_from, octets_ends, octets_found, octets_at, trimmed}
use Rattle.gw_text.specs.Quoted.{is_quotable, IsQuoted}
use Rattle.gw_text.specs.QuotedScan.{quoted_end, quoted_from, quoted_len, span_found, quoted_at}
use Rattle.gw_text.specs.Reader.{found, octets_read, quoted_read}
use Rattle.gw_text.specs.declared.fault.ScanFault.{ScanFault}
use Rattle.gw_text.specs.declared.fault.ScanFault.TheVariants.{Unexpected}
use Rattle.gw_text.proofs.RunLemmas.{run_again, run_is, run_len-le}
use Rattle.gw_text.proofs.Signs.{same_byte}
use Rattle.gw_text.proofs.Leaves.{found_ok}
use Rattle.gw_text.proofs.ReadsUp.{ReadsUp, Same, Any}
use Rattle.gw_text.proofs.OctetsLemmas.{keep_end, octets_sound, octets_again, octets_are, are_are}
use Rattle.gw_text.proofs.TrimLemmas.{kept_is, kept_trimmed, trim_of}

-- ---- octets

keep_step : (t : Bool) (a b n : ℕ) → a ≤ n → b ≤ n → cond t a b ≤ n
keep_step t a b n p q = grind arith

keep_le : (escaped : Bool) (passed keep : ℕ) (xs : List ℕ) → keep ≤ passed → keep_end escaped passed keep xs ≤ passed + length xs
keep_le escaped passed keep [] le = omega (arith, le)
keep_le escaped passed keep (b ∷ bs) le =
    let next : cond (escaped || not (is_blank b)) (passed + 1) keep ≤ passed + 1 = keep_step (escaped || not (is_blank b)) (passed + 1) keep (passed + 1) (omega arith) (omega (arith, le)) in
    omega (arith, keep_le (b == backslash) (passed + 1) (cond (escaped || not (is_blank b)) (passed + 1) keep) bs next)

-- what a scan of octets took
pub record IsTakenOctets (text span rest : List ℕ) : Type 0 where
  pub body : List ℕ
  pub split : text ≡ body ++ rest
  pub closed : begins (is_byte right_brace) rest ≡ true
  pub octets : IsOctetsOf span body

taken_octets : (text span rest : List ℕ) (o : Option (ℕ × ℕ)) → octets_from false 0 0 text ≡ o → octets_found text o ≡ Ok (span, rest) → IsTakenOctets text span rest
taken_octets text span rest None is e = absurd cc
taken_octets text span rest (Some ends) is e =
    let f = octets_sound false 0 0 text ends.0 ends.1 is in
    let got : ◌≡◌ {A = List ℕ × List ℕ} (trimmed (take ends.1 text), drop ends.0 text) (span, rest) = cc in
    let span-is : trimmed (take ends.1 text) ≡ span = ap (λ (p : List ℕ × List ℕ). p.0) got in
    let rest-is : drop ends.0 text ≡ rest = ap (λ (p : List ℕ × List ℕ). p.1) got in
    let back : List ℕ = right_brace ∷ f.rest in
    let rest-back : rest ≡ back = sym rest-is ∙ ap (drop ends.0) f.split ∙ drop_at f.body back ends.0 (omega (arith, f.ends_is)) in
    let keep-le : keep_end false 0 0 f.body ≤ length f.body = omega (arith, keep_le false 0 0 f.body (omega arith)) in
    let kept : take ends.1 text ≡ take (keep_end false 0 0 f.body) f.body = ap (λ (x : List ℕ). take ends.1 x) f.split ∙ ap (λ (n : ℕ). take n (f.body ++ back)) f.kept_is ∙ take-append-le (keep_end false 0 0 f.body) f.body back keep-le in
    let span-trim : trimmed (take (keep_end false 0 0 f.body) f.body) ≡ span = sym (ap trimmed kept) ∙ span-is in
    record {
      body = f.body;
      split = f.split ∙ ap (λ (x : List ℕ). f.body ++ x) (sym rest-back);
      closed = ap (begins (is_byte right_brace)) rest-back ∙ same_byte right_brace;
      octets = record { octets = are_are f.body f.octets; trimmed = subst (λ (s : List ℕ). IsTrimmed f.body s) span-trim (kept_trimmed f.body) };
    }

pub octets_took : (text span rest : List ℕ) → octets_at text ≡ Ok (span, rest) → IsTakenOctets text span rest
unfolding octets_at octets_ends
octets_took text span rest e = taken_octets text span rest (octets_ends text) refl e

-- the same, as the scan says it
pub octets_span : (text span rest : List ℕ) → octets_at text ≡ Ok (span, rest) → (body : List ℕ) × (text ≡ body ++ rest) × (begins (is_byte right_brace) rest ≡ true) × IsOctetsOf span body
octets_span text span rest e = let t = octets_took text span rest e in (t.body, t.split, t.closed, t.octets)

octets_read_on : (span body more : List ℕ) → IsOctetsOf span body → octets_at (body ++ right_brace ∷ more) ≡ Ok (span, right_brace ∷ more)
unfolding octets_at octets_ends
octets_read_on span body more h =
    let back : List ℕ = right_brace ∷ more in
    let ends : octets_from false 0 0 (body ++ back) ≡ Some (0 + length body, keep_end false 0 0 body) = octets_again false 0 0 body more (octets_are body h.octets) in
    let keep-le : keep_end false 0 0 body ≤ length body = omega (arith, keep_le false 0 0 body (omega arith)) in
    let kept : trimmed (take (keep_end false 0 0 body) (body ++ back)) ≡ span = ap trimmed (take-append-le (keep_end false 0 0 body) body back keep-le) ∙ kept_is body span h.trimmed in
    let left : drop (0 + length body) (body ++ back) ≡ back = drop_at body back (0 + length body) (omega arith) in
    ap (octets_found (body ++ back)) ends ∙ rw (kept, left) refl

first_byte : (b : ℕ) (rest : List ℕ) → begins (is_byte b) rest ≡ true → (more : List ℕ) × (rest ≡ b ∷ more)
first_byte b rest h = grind arith

pub octets_again_at : (span body rest : List ℕ) → IsOctetsOf span body → begins (is_byte right_brace) rest ≡ true → octets_at (body ++ rest) ≡ Ok (span, rest)
octets_again_at span body rest h closes =
    let f = first_byte right_brace rest closes in
    subst (λ (r : List ℕ). octets_at (body ++ r) ≡ Ok (span, r)) (sym f.1) (octets_read_on span body f.0 h)

-- there are no octets where the scan answers a fault
pub no_octets : (text : List ℕ) (f : ScanFault) → octets_at text ≡ Err f → (body rest : List ℕ) → text ≡ body ++ right_brace ∷ rest → ¬ IsOctets body
no_octets text f e body rest split h =
    let span = trim_of body in
    let again : octets_at text ≡ Ok (span.0, right_brace ∷ rest) = ap octets_at split ∙ octets_read_on span.0 body rest (record { octets = h; trimmed = span.1 }) in
    let clash : ◌≡◌ {A = Result (List ℕ × List ℕ) ScanFault} (Err f) (Ok (span.0, right_brace ∷ rest)) = sym e ∙ again in
    absurd cc

-- octets up to their closing brace
pub up_octets : ReadsUp octets_read IsOctetsOf (λ rest. begins (is_byte right_brace) rest ≡ true) Same Same
up_octets = record {
  sound = λ text span rest e.
      let t = octets_took text span rest (found_ok (octets_at text) (span, rest) e) in
      (t.body, t.split, t.octets);
  complete = λ span front rest start q n e. (rest, ap octets_read e ∙ ap found (octets_again_at span front rest q n), refl);
}

-- ---- quoted texts

pub quoted_some : (span : List ℕ) → IsQuoted span → 0 < length span
quoted_some span h = omega (arith, ap length h.split, length-append h.front h.back, ap length h.first)

quoted_cases : (P : Type 0) (t : Bool) (n len : ℕ) → cond t (Some n) None ≡ Some len → (t ≡ true → n ≡ len → P) → P
quoted_cases P t n len e f = grind arith

quoted_first : (b : ℕ) (bs : List ℕ) (len : ℕ) (t : Bool) → b == quote_mark ≡ t → cond t (quoted_end (run_len is_quotable bs) (drop (run_len is_quotable bs) bs)) None ≡ Some len → (front rest : List ℕ) × (b ∷ bs ≡ front ++ rest) × (len ≡ length front) × IsQuoted front
quoted_first b bs len false is e = absurd cc
quoted_first b bs len true is e =
    let n = run_len is_quotable bs in
    let inner = take n bs in
    let back = drop n bs in
    quoted_cases ((front rest : List ℕ) × (b ∷ bs ≡ front ++ rest) × (len ≡ length front) × IsQuoted front) (begins (is_byte quote_mark) back) (n + 2) len e
    (λ closes len-is.
    let f = first_byte quote_mark back closes in
    let front : List ℕ = quote_mark ∷ (inner ++ quote_mark ∷ []) in
    let whole : b ∷ bs ≡ front ++ f.0 =
    ap (λ (c : ℕ). c ∷ bs) (eqb-true b quote_mark is) ∙ ap (λ (x : List ℕ). quote_mark ∷ x) (sym (take-append-drop n bs) ∙ ap (λ (x : List ℕ). inner ++ x) f.1 ∙ sym (append_assoc inner (quote_mark ∷ []) f.0)) in
    let len-inner : length inner ≡ n = omega (arith, length-take n bs, run_len-le is_quotable bs) in (
      front,
      f.0,
      whole,
      omega (arith, len-is, len-inner, length-append inner (quote_mark ∷ [])),
      record { front = quote_mark ∷ []; back = inner ++ quote_mark ∷ []; split = refl; first = refl; second = record { front = inner; back = quote_mark ∷ []; split = refl; first = run_is is_quotable bs; second = refl } },
    ))

pub quoted_sound : (text : List ℕ) (len : ℕ) → quoted_from text ≡ Some len → (front rest : List ℕ) × (text ≡ front ++ rest) × (len ≡ length front) × IsQuoted front
quoted_sound text len e = grind (arith, quoted_first)

pub quoted_again : (front rest : List ℕ) → IsQuoted front → quoted_from (front ++ rest) ≡ Some (length front)
quoted_again front rest h = grind (arith, append_assoc, drop_at, length-append, run_again)

span_took : (text span rest : List ℕ) (o : Option ℕ) → quoted_from text ≡ o → span_found text o ≡ Ok (span, rest) → (text ≡ span ++ rest) × IsQuoted span
span_took text span rest o is e = grind (arith, quoted_sound, take-append-drop, take_at)

pub quoted_took : (text span rest : List ℕ) → quoted_at text ≡ Ok (span, rest) → (text ≡ span ++ rest) × IsQuoted span
unfolding quoted_at quoted_len
quoted_took text span rest e = span_took text span rest (quoted_len text) refl e

pub quoted_again_at : (span rest : List ℕ) → IsQuoted span → quoted_at (span ++ rest) ≡ Ok (span, rest)
unfolding quoted_at quoted_len
quoted_again_at span rest h = grind (arith, quoted_again, drop_at, take_at)

pub no_quoted : (text : List ℕ) (f : ScanFault) → quoted_at text ≡ Err f → (f ≡ Unexpected) × ((before after : List ℕ) → text ≡ before ++ after → ¬ IsQuoted before)
unfolding quoted_at
no_quoted text f e = grind (arith, quoted_again_at)

-- a quoted text, quotes and all
pub up_quoted : ReadsUp quoted_read (λ span text. (span ≡ text) × IsQuoted text) Any Same Same
up_quoted = record {
  sound = λ text span rest e.
      let t = quoted_took text span rest (found_ok (quoted_at text) (span, rest) e) in
      (span, t.0, (refl, t.1));
  complete = λ span front rest start q n e. (rest, ap quoted_read e ∙ ap found (quoted_again_at front rest q.1) ∙ ap (λ (x : List ℕ). Some (x, rest)) (sym q.0), refl);
}
