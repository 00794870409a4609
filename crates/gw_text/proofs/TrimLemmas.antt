-- What is kept of octets is one text alone, and it is what the scan keeps.
use Rattle.std.proofs.lemmas.Grind.{common_steps}
use Rattle.std.proofs.Common.{◌≡◌, ◌⊎◌, inl, inr, ℕ, ◌+◌, Bool, true, false, cond, not, ◌==◌, ◌||◌, List, [], ◌∷◌, ◌++◌, length, take, drop, refl, ap, sym, subst, ◌∙◌, append_assoc, arith}
use Rattle.std.specs.List.{list_all}
use Rattle.std.proofs.lemmas.List.{take-append-drop, drop_at}
use Rattle.std.proofs.lemmas.Bool.{eqb-true, and_parts}
use Rattle.gw_text.specs.Lexical.{backslash, is_blank}
use Rattle.gw_text.specs.Runs.{IsRun, begins, run_len}
use Rattle.gw_text.specs.Octets.{EndsKept, IsTrimmed}
use Rattle.gw_text.specs.OctetsScan.{trimmed}
use Rattle.gw_text.proofs.RunLemmas.{run_again, run_is}
use Rattle.gw_text.proofs.OctetsLemmas.{keep_end}
use Rattle.gw_text.proofs.SpaceParts.{run_ends}

-- ---- where what is kept ends, over texts behind one another

-- whether a `\` stands in front of what is behind the text
abbrev escaped_by : Bool → List ℕ → Bool
escaped_by escaped [] = escaped
escaped_by escaped (b ∷ bs) = escaped_by (b == backslash) bs

keep_append : (escaped : Bool) (passed keep : ℕ) (xs ys : List ℕ) → keep_end escaped passed keep (xs ++ ys) ≡ keep_end (escaped_by escaped xs) (passed + length xs) (keep_end escaped passed keep xs) ys
keep_append escaped passed keep [] ys = grind arith
keep_append escaped passed keep (b ∷ bs) ys = grind (arith, keep_append (b == backslash) (passed + 1) (cond (escaped || not (is_blank b)) (passed + 1) keep) bs ys)

blank_no_slash : (b : ℕ) → is_blank b ≡ true → (t : Bool) → b == backslash ≡ t → t ≡ false
blank_no_slash b h t is = grind arith

-- white space is not kept
keep_blank : (passed keep : ℕ) (xs : List ℕ) → IsRun is_blank xs → keep_end false passed keep xs ≡ keep
keep_blank passed keep [] h = refl
keep_blank passed keep (b ∷ bs) h =
    let a = and_parts (is_blank b) (list_all is_blank bs) h in
    let blank = a.0 in
    let n : b == backslash ≡ false = blank_no_slash b blank (b == backslash) refl in
    rw (n, blank) (keep_blank (passed + 1) keep bs a.1)

-- ---- what is kept is what is to be kept

-- the scan keeps the lead and the span, or nothing
keep_span : (lead span trail : List ℕ) → IsRun is_blank lead → IsRun is_blank trail → EndsKept span trail → (take (keep_end false 0 0 (lead ++ (span ++ trail))) (lead ++ (span ++ trail)) ≡ lead ++ span) ⊎ ((span ≡ []) × (keep_end false 0 0 (lead ++ (span ++ trail)) ≡ 0))
keep_span lead span trail white blank ends = grind (arith, common_steps, keep_append, keep_blank)

trimmed_is : (lead span : List ℕ) → IsRun is_blank lead → begins is_blank span ≡ false → trimmed (lead ++ span) ≡ span
trimmed_is lead span white solid = ap (λ (n : ℕ). drop n (lead ++ span)) (run_again is_blank lead span white solid) ∙ drop_at lead span (length lead) refl

-- so what is to be kept is what the scan keeps
pub kept_is : (body span : List ℕ) → IsTrimmed body span → trimmed (take (keep_end false 0 0 body) body) ≡ span
kept_is body span h = grind (arith, keep_span, trimmed_is)

-- ---- there is always something to be kept

-- where a text is split into what ends in no white space, and white space
pub record IsSplit (text : List ℕ) : Type 0 where
  pub front : List ℕ
  pub trail : List ℕ
  pub split : text ≡ front ++ trail
  pub blank : IsRun is_blank trail
  pub ends : (front ≡ []) ⊎ ((before : List ℕ) × (last : ℕ) × (front ≡ before ++ last ∷ []) × (is_blank last ≡ false))

split_cases : (b : ℕ) (bs : List ℕ) (t : Bool) → is_blank b ≡ t → (front trail : List ℕ) → bs ≡ front ++ trail → IsRun is_blank trail → (front ≡ []) ⊎ ((before : List ℕ) × (last : ℕ) × (front ≡ before ++ last ∷ []) × (is_blank last ≡ false)) → IsSplit (b ∷ bs)
split_cases b bs true is front trail split blank (inl none) = record { front = []; trail = b ∷ trail; split = ap (λ (x : List ℕ). b ∷ x) (split ∙ ap (λ (x : List ℕ). x ++ trail) none); blank = rw (is, blank) refl; ends = inl refl }
split_cases b bs false is front trail split blank (inl none) = record { front = b ∷ []; trail = trail; split = ap (λ (x : List ℕ). b ∷ x) (split ∙ ap (λ (x : List ℕ). x ++ trail) none); blank = blank; ends = inr ([], b, refl, is) }
split_cases b bs t is front trail split blank (inr h) = record { front = b ∷ front; trail = trail; split = ap (λ (x : List ℕ). b ∷ x) split; blank = blank; ends = inr (b ∷ h.0, h.1, ap (λ (x : List ℕ). b ∷ x) h.2, h.3) }

more_split : (b : ℕ) (bs : List ℕ) (t : Bool) → is_blank b ≡ t → IsSplit bs → IsSplit (b ∷ bs)
more_split b bs t is h = split_cases b bs t is h.front h.trail h.split h.blank h.ends

split_of : (text : List ℕ) → IsSplit text
split_of [] = record { front = []; trail = []; split = refl; blank = refl; ends = inl refl }
split_of (b ∷ bs) = more_split b bs (is_blank b) refl (split_of bs)

-- what is kept of a text that begins with no white space
pub record IsCore (core : List ℕ) : Type 0 where
  pub span : List ℕ
  pub trail : List ℕ
  pub split : core ≡ span ++ trail
  pub blank : IsRun is_blank trail
  pub solid : begins is_blank span ≡ false
  pub ends : EndsKept span trail

core_none : (core : List ℕ) → begins is_blank core ≡ false → (trail : List ℕ) → core ≡ trail → IsRun is_blank trail → IsCore core
core_none core solid trail split blank = grind arith

begins_front : (p : ℕ → Bool) (before : List ℕ) (last : ℕ) (more : List ℕ) → begins p ((before ++ last ∷ []) ++ more) ≡ begins p (before ++ last ∷ [])
begins_front p before last more = grind (arith, common_steps)

core_some : (core : List ℕ) → begins is_blank core ≡ false → (before : List ℕ) (last : ℕ) (trail : List ℕ) → core ≡ (before ++ last ∷ []) ++ trail → is_blank last ≡ false → IsRun is_blank trail → (t : Bool) → last == backslash ≡ t → IsCore core
core_some core solid before last trail split end blank false is = grind (arith, begins_front)
core_some core solid before last [] split end blank true is = grind (arith, begins_front)
core_some core solid before last (w ∷ ws) split end blank true is =
    let a = and_parts (is_blank w) (list_all is_blank ws) blank in
    let slash : last ≡ backslash = eqb-true last backslash is in
    let span : List ℕ = before ++ backslash ∷ (w ∷ []) in
    let regroup : span ≡ (before ++ last ∷ []) ++ w ∷ [] = ap (λ (c : ℕ). before ++ c ∷ (w ∷ [])) (sym slash) ∙ sym (append_assoc before (last ∷ []) (w ∷ [])) in
    record {
      span = span;
      trail = ws;
      split = split ∙ sym (append_assoc (before ++ last ∷ []) (w ∷ []) ws) ∙ ap (λ (x : List ℕ). x ++ ws) (sym regroup);
      blank = a.1;
      solid = ap (begins is_blank) regroup ∙ begins_front is_blank before last (w ∷ []) ∙ sym (begins_front is_blank before last (w ∷ ws)) ∙ ap (begins is_blank) (sym split) ∙ solid;
      ends = inr (inl (before, w, refl, a.0));
    }

core_cases : (core : List ℕ) → begins is_blank core ≡ false → (front trail : List ℕ) → core ≡ front ++ trail → IsRun is_blank trail → (front ≡ []) ⊎ ((before : List ℕ) × (last : ℕ) × (front ≡ before ++ last ∷ []) × (is_blank last ≡ false)) → IsCore core
core_cases core solid front trail split blank (inl none) = core_none core solid trail (split ∙ ap (λ (x : List ℕ). x ++ trail) none) blank
core_cases core solid front trail split blank (inr h) = core_some core solid h.0 h.1 trail (split ∙ ap (λ (x : List ℕ). x ++ trail) h.2) h.3 blank (h.1 == backslash) refl

core_of : (core : List ℕ) → begins is_blank core ≡ false → IsCore core
core_of core solid = let h = split_of core in core_cases core solid h.front h.trail h.split h.blank h.ends

-- of each text something is to be kept, if only nothing
pub trim_of : (body : List ℕ) → (span : List ℕ) × IsTrimmed body span
trim_of body =
    let n = run_len is_blank body in
    let c = core_of (drop n body) (run_ends is_blank body) in (
      c.span,
      record {
        lead = take n body;
        trail = c.trail;
        split = sym (take-append-drop n body) ∙ ap (λ (x : List ℕ). take n body ++ x) c.split;
        lead_blank = run_is is_blank body;
        trail_blank = c.blank;
        begins_solid = c.solid;
        ends = c.ends;
      },
    )

-- and what the scan keeps is to be kept
pub kept_trimmed : (body : List ℕ) → IsTrimmed body (trimmed (take (keep_end false 0 0 body) body))
kept_trimmed body = let t = trim_of body in subst (IsTrimmed body) (sym (kept_is body t.0 t.1)) t.1
