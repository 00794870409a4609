-- Readers of words, of numbers, of bytes before white space, and of white space.
use Rattle.std.proofs.Common.{◌≡◌, ℕ, ◌+◌, ◌<◌, Bool, false, ◌==◌, List, ◌++◌, length, take, drop, Option, Some, Result, Ok, Err, refl, ap, sym, ◌∙◌, append_assoc, arith}
use Rattle.std.proofs.lemmas.List.{take_at, drop_at}
use Rattle.std.proofs.lemmas.Bool.{le-ltb}
use Rattle.gw_base.specs.Bytes.{is_digit}
use Rattle.gw_base.specs.Lang.{◌▹◌}
use Rattle.gw_text.specs.Lexical.{is_safe, is_solid}
use Rattle.gw_text.specs.Space.{IsSep}
use Rattle.gw_text.specs.SpaceScan.{space_len, skip}
use Rattle.gw_text.specs.Runs.{run_len, NoMore}
use Rattle.gw_text.specs.Scans.{some_at, sep_at, word_at, solid_at, number_within, uint32_max, uint32_digits}
use Rattle.gw_text.specs.Forms.{IsSomeRun, IsNumber, IsUint32, IsWordFor}
use Rattle.gw_text.specs.Reader.{Reader, ◌>>=◌, found, word_as, solid_as, number_at, number_up_to}
use Rattle.gw_text.specs.declared.fault.ScanFault.{ScanFault}
use Rattle.gw_text.proofs.RunLemmas.{run_again}
use Rattle.gw_text.proofs.Scanned.{run_found, number_takes, sep_found}
use Rattle.gw_text.proofs.Skips.{skip_space, space_len-append}
use Rattle.gw_text.proofs.Signs.{some_is}
use Rattle.gw_text.proofs.ReadsUp.{ReadsUp, Same, Skipped, Any, bind_some, both_split}

pub found_ok : {A : Type 0} (r : Result A ScanFault) (x : A) → found r ≡ Some x → r ≡ Ok x
found_ok {A} (Ok y) x e = ap (λ (z : A). Ok z) (some_is y x e)
found_ok (Err d) x e = absurd cc

pub eq_zero : (n : ℕ) → 0 < n → n == 0 ≡ false
eq_zero n h = grind arith

-- ---- runs of some bytes

pub run_read : (p : ℕ → Bool) (front rest : List ℕ) → IsSomeRun p front → NoMore p rest → some_at (run_len p (front ++ rest)) (front ++ rest) ≡ Ok (front, rest)
run_read p front rest h ends = grind (arith, eq_zero, drop_at, run_again, take_at)

-- a run that stands for a value
pub run_reads : {V : Type 0} (p : ℕ → Bool) (of : List ℕ → Option V)
    → ReadsUp (λ text. found (some_at (run_len p text) text) >>= λ w. of w.0 >>= λ v. Some (v, w.1)) (λ v text. IsSomeRun p text × (of text ≡ Some v)) (NoMore p) Same Same
run_reads {V} p of = record {
  sound = λ text v rest e.
      let scan = some_at (run_len p text) text in
      let a = bind_some (found scan) (λ w. of w.0 >>= λ v. Some (v, w.1)) (v, rest) e in
      let b = bind_some (of a.0.0) (λ v. Some (v, a.0.1)) (v, rest) a.2 in
      let w = run_found p text a.0.0 a.0.1 (found_ok scan a.0 a.1) in
      let made : V × List ℕ = (b.0, a.0.1) in
      let same = some_is made (v, rest) b.2 in
      (a.0.0, w.split ∙ ap (λ (p : V × List ℕ). a.0.0 ++ p.1) same, (w.inside, b.1 ∙ ap (λ (p : V × List ℕ). Some p.0) same));
  complete = λ v front rest start q n e. (
    rest,
    ap (λ (t : List ℕ). found (some_at (run_len p t) t) >>= λ w. of w.0 >>= λ v. Some (v, w.1)) e
        ∙ ap (λ (r : Result (List ℕ × List ℕ) ScanFault). found r >>= λ w. of w.0 >>= λ v. Some (v, w.1)) (run_read p front rest q.0 n)
        ∙ ap (λ (o : Option V). o >>= λ v. Some (v, rest)) q.1,
    refl,
  );
}

-- a word that stands for a value
pub up_word : {V : Type 0} (of : List ℕ → Option V) → ReadsUp (word_as of) (IsWordFor of) (NoMore is_safe) Same Same
unfolding word_at
up_word of =
    let h = run_reads is_safe of in
    record {
      sound = λ text v rest e. let s = h.sound text v rest e in (s.0, s.1, record { word = s.2.0; stands = s.2.1 });
      complete = λ v front rest start q n e. h.complete v front rest start (q.word, q.stands) n e;
    }

-- bytes before white space that stand for a value
pub up_solid : {V : Type 0} (of : List ℕ → Option V) → ReadsUp (solid_as of) (λ v text. IsSomeRun is_solid text × (of text ≡ Some v)) (NoMore is_solid) Same Same
unfolding solid_at
up_solid of = run_reads is_solid of

-- ---- numbers

number_again : (most max n : ℕ) (front rest : List ℕ) → IsNumber most max n front → NoMore is_digit rest → number_within most max (front ++ rest) ≡ Ok (n, rest)
unfolding number_within
number_again most max n front rest h ends = grind (arith, eq_zero, drop_at, le-ltb, run_again, take_at)

-- a number of at most so many digits, and at most max
pub up_number_up_to : (most max : ℕ) → ReadsUp (number_up_to most max) (IsNumber most max) (NoMore is_digit) Same Same
up_number_up_to most max = grind (arith, found_ok, number_again, number_takes)

pub up_number : ReadsUp number_at IsUint32 (NoMore is_digit) Same Same
up_number = up_number_up_to uint32_digits uint32_max

-- ---- white space that must be there

sep_again : (front rest : List ℕ) → IsSep front → (span : List ℕ) × (sep_at (front ++ rest) ≡ Ok (span, skip rest))
unfolding sep_at skip
sep_again front rest h =
    let n : space_len (front ++ rest) ≡ length front + space_len rest = space_len-append front rest h.space in
    let some : space_len (front ++ rest) == 0 ≡ false = eq_zero (space_len (front ++ rest)) (omega (arith, n, h.some)) in
    let e : drop (space_len (front ++ rest)) (front ++ rest) ≡ drop (space_len rest) rest = skip_space front rest h.space in
    (take (space_len (front ++ rest)) (front ++ rest), rw (some, e) refl)

-- x ← found (sep_at text), and then k x.1
pub up_sep : {W : Type 0} (k : Reader W) (Q : W → List ℕ → Type 0) (Next : List ℕ → Type 0) (To : List ℕ → List ℕ → Type 0) → ReadsUp k Q Next Skipped To
    → ReadsUp (λ text. found (sep_at text) >>= λ x. k x.1) (λ w. IsSep ▹ Q w) Next Same To
up_sep {W} k Q Next To h = record {
  sound = λ text w rest e.
      let x = bind_some (found (sep_at text)) (λ x. k x.1) (w, rest) e in
      let s = sep_found text x.0.0 x.0.1 (found_ok (sep_at text) x.0 x.1) in
      let t = h.sound x.0.1 w rest x.2 in
      (x.0.0 ++ t.0, s.split ∙ ap (λ (y : List ℕ). x.0.0 ++ y) t.1 ∙ sym (append_assoc x.0.0 t.0 rest), record { front = x.0.0; back = t.0; split = refl; first = s.inside; second = t.2 });
  complete = λ w front rest start q n e.
      let at : start ≡ q.front ++ (q.back ++ rest) = e ∙ both_split IsSep (Q w) front rest q in
      let one = sep_again q.front (q.back ++ rest) q.first in
      let two = h.complete w q.back rest (skip (q.back ++ rest)) q.second n refl in (
        two.0,
        ap (λ (t : List ℕ). found (sep_at t) >>= λ x. k x.1) at
            ∙ ap (λ (o : Result (List ℕ × List ℕ) ScanFault). found o >>= λ x. k x.1) one.1
            ∙ two.1,
        two.2,
      );
}

-- x ← found (sep_at text), and that was all: Some (v, x.1)
pub up_sep_last : {W : Type 0} (v : W) → ReadsUp (λ text. found (sep_at text) >>= λ x. Some (v, x.1)) (λ w text. (v ≡ w) × IsSep text) Any Same Skipped
up_sep_last {W} v = record {
  sound = λ text w rest e.
      let x = bind_some (found (sep_at text)) (λ x. Some (v, x.1)) (w, rest) e in
      let made : W × List ℕ = (v, x.0.1) in
      let same = some_is made (w, rest) x.2 in
      let s = sep_found text x.0.0 x.0.1 (found_ok (sep_at text) x.0 x.1) in
      (x.0.0, s.split ∙ ap (λ (p : W × List ℕ). x.0.0 ++ p.1) same, (ap (λ (p : W × List ℕ). p.0) same, s.inside));
  complete = λ w front rest start q n e.
      let one = sep_again front rest q.1 in (
        skip rest,
        ap (λ (t : List ℕ). found (sep_at t) >>= λ x. Some (v, x.1)) e
            ∙ ap (λ (o : Result (List ℕ × List ℕ) ScanFault). found o >>= λ x. Some (v, x.1)) one.1
            ∙ ap (λ (x : W). Some (x, skip rest)) q.0,
        refl,
      );
}
