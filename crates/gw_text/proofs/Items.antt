-- Readers of items with white space between them, to the end of the text.
use Rattle.std.proofs.Common.{◌≡◌, ℕ, zero, suc, ◌≤◌, Bool, true, List, [], ◌∷◌, ◌++◌, length, Option, Some, refl, ap, sym, subst, ◌∙◌, append_assoc, length-append, arith}
use Rattle.std.proofs.lemmas.List.{append-nil}
use Rattle.gw_base.specs.Lang.{◌▹◌}
use Rattle.gw_text.specs.Lexical.{is_solid}
use Rattle.gw_text.specs.Space.{IsSpace}
use Rattle.gw_text.specs.SpaceScan.{skip}
use Rattle.gw_text.specs.Runs.{begins}
use Rattle.gw_text.specs.Forms.{Spaced}
use Rattle.gw_text.specs.Reader.{Reader, ◌>>=◌, with_first, if_more, items_from, items_at}
use Rattle.gw_text.proofs.Skips.{skip_space, skip_is, skip_stays}
use Rattle.gw_text.proofs.Signs.{some_is}
use Rattle.gw_text.proofs.Links.{both_begins}
use Rattle.gw_text.proofs.ReadsUp.{ReadsUp, Same, UpTo, BeginsWith, bind_some, begins_append, begins_some, skip_solid}
use Rattle.gw_text.proofs.Lists.{first_some}

-- ---- items

-- What the reader of an item asks for: an item may follow it, with white space between or none, and so may the end;
-- and it begins with no white space.
pub record ItemsUp {V : Type 0} (Form : V → List ℕ → Type 0) (Next : List ℕ → Type 0) : Type 0 where
  pub next : (w : V) (between front rest : List ℕ) → IsSpace between → Form w front → Next (between ++ (front ++ rest))
  pub last : (rest : List ℕ) → skip rest ≡ [] → Next rest
  pub begins : BeginsWith is_solid Form

-- items begin as the first of them
pub spaced_begins : {V : Type 0} (p : ℕ → Bool) (Form : V → List ℕ → Type 0) → BeginsWith p Form → BeginsWith p (Spaced Form)
spaced_begins p Form h [] text s = absurd s
spaced_begins p Form h (v ∷ []) text s = h v text s
spaced_begins p Form h (v ∷ (u ∷ us)) text s = both_begins p (Form v) (IsSpace ▹ Spaced Form (u ∷ us)) (h v) text s

spaced_len : {V : Type 0} (Form : V → List ℕ → Type 0) → BeginsWith is_solid Form → (vs : List V) (front : List ℕ) → Spaced Form vs front → length vs ≤ length front
spaced_len Form h [] front s = absurd s
spaced_len Form h (v ∷ []) front s = omega (arith, begins_some is_solid front (h v front s))
spaced_len Form h (v ∷ (u ∷ us)) front s =
    let c = s.second in
    omega (arith, begins_some is_solid s.front (h v s.front s.first), spaced_len Form h (u ∷ us) c.back c.second, ap length s.split, length-append s.front s.back, ap length c.split, length-append c.front c.back)

cons_spaced : {V : Type 0} (Form : V → List ℕ → Type 0) (v : V) (us : List V) (f c g : List ℕ) → Form v f → IsSpace c → Spaced Form us g → Spaced Form (v ∷ us) (f ++ (c ++ g))
cons_spaced Form v us f c g one between others = grind arith

-- a text of a form, and white space up to its end
abbrev pub ToEnd : (List ℕ → Type 0) → List ℕ → Type 0
ToEnd P = P ▹ IsSpace

more_sound : {V : Type 0} (Form : V → List ℕ → Type 0) (others : Reader (List V)) → ((text : List ℕ) (vs : List V) (rest : List ℕ) → others text ≡ Some (vs, rest) → (rest ≡ []) × ToEnd (Spaced Form vs) text)
    → (v : V) (mid : List ℕ) (vs : List V) (rest : List ℕ) → if_more others v mid ≡ Some (vs, rest)
    → (text f between : List ℕ) → text ≡ f ++ (between ++ mid) → Form v f → IsSpace between → (rest ≡ []) × ToEnd (Spaced Form vs) text
more_sound {V} Form others sound v [] vs rest e text f between split one space = grind (arith, some_is, append-nil)
more_sound {V} Form others sound v (b ∷ bs) vs rest e text f between split one space =
    let w = first_some v (others (b ∷ bs)) vs rest e in
    let t = sound (b ∷ bs) w.0 rest w.1 in
    let g = t.1 in
    let whole : text ≡ (f ++ (between ++ g.front)) ++ g.back =
    split ∙ ap (λ (x : List ℕ). f ++ (between ++ x)) g.split ∙ ap (λ (x : List ℕ). f ++ x) (sym (append_assoc between g.front g.back)) ∙ sym (append_assoc f (between ++ g.front) g.back) in
    (t.0, record { front = f ++ (between ++ g.front); back = g.back; split = whole; first = subst (λ (us : List V). Spaced Form us (f ++ (between ++ g.front))) w.2 (cons_spaced Form v w.0 f between g.front one space g.first); second = g.second })

items_sound : {V : Type 0} (r : Reader V) (Form : V → List ℕ → Type 0) → ((text : List ℕ) (v : V) (rest : List ℕ) → r text ≡ Some (v, rest) → (front : List ℕ) × (text ≡ front ++ rest) × Form v front)
    → (fuel : ℕ) (text : List ℕ) (vs : List V) (rest : List ℕ) → items_from r fuel text ≡ Some (vs, rest) → (rest ≡ []) × ToEnd (Spaced Form vs) text
unfolding items_from
items_sound r Form h zero text vs rest e = absurd cc
items_sound {V} r Form h (suc fuel) text vs rest e =
    let b = bind_some (r text) (λ x. if_more (items_from r fuel) x.0 (skip x.1)) (vs, rest) e in
    let s = h text b.0.0 b.0.1 b.1 in
    let k = skip_is b.0.1 in
    more_sound Form (items_from r fuel) (items_sound r Form h fuel) b.0.0 (skip b.0.1) vs rest b.2 text s.0 k.front
    (s.1 ∙ ap (λ (x : List ℕ). s.0 ++ x) (k.split ∙ ap (λ (x : List ℕ). k.front ++ x) k.second)) s.2 k.first

more_is : {V : Type 0} (others : Reader (List V)) (v : V) (rest : List ℕ) → begins is_solid rest ≡ true → if_more others v rest ≡ with_first v (others rest)
more_is others v rest some = grind arith

next_item : {V : Type 0} (Form : V → List ℕ → Type 0) (Next : List ℕ → Type 0) → ItemsUp Form Next → (u : V) (us : List V) (between front rest : List ℕ) → IsSpace between → Spaced Form (u ∷ us) front → Next (between ++ (front ++ rest))
next_item Form Next l u us between front rest space s = grind (arith, append_assoc)

items_complete : {V : Type 0} (r : Reader V) (Form : V → List ℕ → Type 0) (Next : List ℕ → Type 0) → ReadsUp r Form Next Same UpTo → ItemsUp Form Next
    → (fuel : ℕ) (vs : List V) (front rest : List ℕ) → length vs ≤ fuel → Spaced Form vs front → skip rest ≡ [] → items_from r fuel (front ++ rest) ≡ Some (vs, [])
unfolding items_from
items_complete r Form Next h l fuel [] front rest le s n = absurd s
items_complete r Form Next h l zero (v ∷ vs) front rest le s n = absurd (omega arith)
items_complete {V} r Form Next h l (suc fuel) (v ∷ []) front rest le s n =
    let one = h.complete v front rest (front ++ rest) s (l.last rest n) refl in
    ap (λ (o : Option (V × List ℕ)). o >>= λ x. if_more (items_from r fuel) x.0 (skip x.1)) one.1
    ∙ ap (if_more (items_from r fuel) v) (one.2 ∙ n)
items_complete {V} r Form Next h l (suc fuel) (v ∷ (u ∷ us)) front rest le s n =
    let c = s.second in
    let more : List ℕ = c.back ++ rest in
    let whole : front ++ rest ≡ s.front ++ (c.front ++ more) =
    ap (λ (x : List ℕ). x ++ rest) s.split ∙ append_assoc s.front s.back rest
    ∙ ap (λ (x : List ℕ). s.front ++ x) (ap (λ (x : List ℕ). x ++ rest) c.split ∙ append_assoc c.front c.back rest) in
    let one = h.complete v s.front (c.front ++ more) (front ++ rest) s.first (next_item Form Next l u us c.front c.back rest c.first c.second) whole in
    let begins-more : begins is_solid more ≡ true = begins_append is_solid c.back rest (spaced_begins is_solid Form l.begins (u ∷ us) c.back c.second) in
    let at : skip one.0 ≡ more = one.2 ∙ skip_space c.front more c.first ∙ skip_solid more begins-more in
    let others = items_complete r Form Next h l fuel (u ∷ us) c.back rest (omega arith) c.second n in
    ap (λ (o : Option (V × List ℕ)). o >>= λ x. if_more (items_from r fuel) x.0 (skip x.1)) one.1
    ∙ ap (if_more (items_from r fuel) v) at
    ∙ more_is (items_from r fuel) v more begins-more
    ∙ ap (with_first v) others

-- white space alone leaves nothing
pub at_end : (text : List ℕ) → IsSpace text → skip text ≡ []
at_end text h = ap skip (sym (append-nil text)) ∙ skip_space text [] h ∙ skip_stays [] refl

-- nothing is left
abbrev pub Ended : List ℕ → Type 0
Ended rest = rest ≡ []

-- one or more items, to the end of the text, with white space there
pub up_items : {V : Type 0} (r : Reader V) (Form : V → List ℕ → Type 0) (Next : List ℕ → Type 0) → ReadsUp r Form Next Same UpTo → ItemsUp Form Next → ReadsUp (items_at r) (λ vs. ToEnd (Spaced Form vs)) Ended Same Same
up_items {V} r Form Next h l = record {
  sound = λ text vs rest e.
      let s = items_sound r Form h.sound (suc (length text)) text vs rest e in
      (text, sym (append-nil text) ∙ ap (λ (x : List ℕ). text ++ x) (sym s.0), s.1);
  complete = λ vs front rest start t n e.
      let at : skip (t.back ++ rest) ≡ [] = ap (λ (x : List ℕ). skip (t.back ++ x)) n ∙ ap skip (append-nil t.back) ∙ at_end t.back t.second in
      let whole : start ≡ t.front ++ (t.back ++ rest) = e ∙ ap (λ (x : List ℕ). x ++ rest) t.split ∙ append_assoc t.front t.back rest in (
        [],
        ap (items_at r) whole ∙ items_complete r Form Next h l (suc (length (t.front ++ (t.back ++ rest)))) vs t.front (t.back ++ rest) (omega (arith, spaced_len Form l.begins vs t.front t.first, length-append t.front (t.back ++ rest))) t.first at,
        sym n,
      );
}
