-- Readers of lists with signs between their parts, in braces or not.
use Rattle.std.proofs.Common.{◌≡◌, ◌⊎◌, inl, inr, ℕ, zero, suc, ◌≤◌, Bool, true, false, List, [], ◌∷◌, ◌++◌, length, Option, Some, None, refl, ap, sym, subst, ◌∙◌, append_assoc, length-append, arith}
use Rattle.std.proofs.lemmas.List.{append-nil}
use Rattle.gw_base.specs.Lang.{Both, ◌▹◌}
use Rattle.gw_text.specs.Lexical.{is_solid, comma, left_brace, right_brace}
use Rattle.gw_text.specs.Runs.{begins}
use Rattle.gw_text.specs.Sign.{sign_at}
use Rattle.gw_text.specs.Forms.{IsSign, Separated, Braced, OptionalBraced, BracedOrEmpty}
use Rattle.gw_text.specs.Reader.{Reader, ◌>>=◌, with_first, if_comma, list_from, list_at, closed_list_at, braced_at, optional_at, braced_or_empty_at, if_sign}
use Rattle.gw_text.proofs.Signs.{some_is, sign_from, sign_sound, sign_again, sign_other, sign_len}
use Rattle.gw_text.proofs.Links.{both_begins, begins_no_sign}
use Rattle.gw_text.proofs.ReadsUp.{ReadsUp, Same, Skipped, UpTo, Any, BeginsWith, bind_some, begins_append, skip_solid, up_as, up_next, up_to, up_skipped, up_then, up_sign, up_close, up_if_sign, up_done, up_up, skipped_up}

-- ---- what may follow

-- What the reader of a list's part asks for: a comma may follow it, and it begins with no white space.
pub record ListsUp {V : Type 0} (Form : V → List ℕ → Type 0) (Next : List ℕ → Type 0) : Type 0 where
  pub next : (front more : List ℕ) → IsSign comma front → Next (front ++ more)
  pub begins : BeginsWith is_solid Form

-- what may follow a part, where no sign b comes next
pub record NoSign (b : ℕ) (Next : List ℕ → Type 0) (rest : List ℕ) : Type 0 where
  pub next : Next rest
  pub bare : sign_at b rest ≡ None

-- what may follow the last part of a list
abbrev pub LastUp : (List ℕ → Type 0) → List ℕ → Type 0
LastUp Next = NoSign comma Next

-- ---- lists with commas

pub cons_separated : {V : Type 0} (Form : V → List ℕ → Type 0) (v : V) (us : List V) (f c g : List ℕ) → Form v f → IsSign comma c → Separated Form us g → Separated Form (v ∷ us) (f ++ (c ++ g))
cons_separated Form v us f c g one sign others = grind arith

-- a list begins as its first part
pub separated_begins : {V : Type 0} (p : ℕ → Bool) (Form : V → List ℕ → Type 0) → BeginsWith p Form → BeginsWith p (Separated Form)
separated_begins p Form h [] text s = absurd s
separated_begins p Form h (v ∷ []) text s = h v text s
separated_begins p Form h (v ∷ (u ∷ us)) text s = both_begins p (Form v) (IsSign comma ▹ Separated Form (u ∷ us)) (h v) text s

separated_len : {V : Type 0} (Form : V → List ℕ → Type 0) (vs : List V) (front : List ℕ) → Separated Form vs front → length vs ≤ suc (length front)
separated_len Form [] front s = absurd s
separated_len Form (v ∷ []) front s = omega arith
separated_len Form (v ∷ (u ∷ us)) front s =
    let c = s.second in
    omega (arith, separated_len Form (u ∷ us) c.back c.second, sign_len comma c.front c.first, ap length s.split, length-append s.front s.back, ap length c.split, length-append c.front c.back)

pub first_some : {V : Type 0} (v : V) (o : Option (List V × List ℕ)) (vs : List V) (rest : List ℕ) → with_first v o ≡ Some (vs, rest) → (us : List V) × (o ≡ Some (us, rest)) × (v ∷ us ≡ vs)
first_some v o vs rest e = grind arith

comma_sound : {V : Type 0} (Form : V → List ℕ → Type 0) (others : Reader (List V)) → ((text : List ℕ) (vs : List V) (rest : List ℕ) → others text ≡ Some (vs, rest) → (front : List ℕ) × (text ≡ front ++ rest) × Separated Form vs front)
    → (v : V) (mid : List ℕ) (o : Option (List ℕ)) (vs : List V) (rest : List ℕ) → sign_at comma mid ≡ o → if_comma others v mid o ≡ Some (vs, rest)
    → (text f : List ℕ) → text ≡ f ++ mid → Form v f → (front : List ℕ) × (text ≡ front ++ rest) × Separated Form vs front
comma_sound {V} Form others sound v mid None vs rest o-is e text f split one = grind (arith, some_is)
comma_sound {V} Form others sound v mid (Some more) vs rest o-is e text f split one =
    let w = first_some v (others more) vs rest e in
    let t = sound more w.0 rest w.1 in
    let c = sign_sound comma mid more o-is in
    let whole : text ≡ (f ++ (c.0 ++ t.0)) ++ rest =
    split ∙ ap (λ (x : List ℕ). f ++ x) (c.1 ∙ ap (λ (x : List ℕ). c.0 ++ x) t.1 ∙ sym (append_assoc c.0 t.0 rest)) ∙ sym (append_assoc f (c.0 ++ t.0) rest) in
    (f ++ (c.0 ++ t.0), whole, subst (λ (us : List V). Separated Form us (f ++ (c.0 ++ t.0))) w.2 (cons_separated Form v w.0 f c.0 t.0 one c.2 t.2))

list_sound : {V : Type 0} (r : Reader V) (Form : V → List ℕ → Type 0) → ((text : List ℕ) (v : V) (rest : List ℕ) → r text ≡ Some (v, rest) → (front : List ℕ) × (text ≡ front ++ rest) × Form v front)
    → (fuel : ℕ) (text : List ℕ) (vs : List V) (rest : List ℕ) → list_from r fuel text ≡ Some (vs, rest) → (front : List ℕ) × (text ≡ front ++ rest) × Separated Form vs front
unfolding list_from
list_sound r Form h zero text vs rest e = absurd cc
list_sound {V} r Form h (suc fuel) text vs rest e =
    let b = bind_some (r text) (λ x. if_comma (list_from r fuel) x.0 x.1 (sign_at comma x.1)) (vs, rest) e in
    let s = h text b.0.0 b.0.1 b.1 in
    comma_sound Form (list_from r fuel) (list_sound r Form h fuel) b.0.0 b.0.1 (sign_at comma b.0.1) vs rest refl b.2 text s.0 s.1 s.2

list_complete : {V : Type 0} (r : Reader V) (Form : V → List ℕ → Type 0) (Next : List ℕ → Type 0) → ReadsUp r Form Next Same UpTo → ListsUp Form Next
    → (fuel : ℕ) (vs : List V) (front rest : List ℕ) → length vs ≤ fuel → Separated Form vs front → LastUp Next rest → (after : List ℕ) × (list_from r fuel (front ++ rest) ≡ Some (vs, after)) × UpTo after rest
unfolding list_from
list_complete r Form Next h l fuel [] front rest le s n = absurd s
list_complete r Form Next h l zero (v ∷ vs) front rest le s n = absurd (omega arith)
list_complete {V} r Form Next h l (suc fuel) (v ∷ []) front rest le s n =
    let one = h.complete v front rest (front ++ rest) s n.next refl in (
      one.0,
      ap (λ (o : Option (V × List ℕ)). o >>= λ x. if_comma (list_from r fuel) x.0 x.1 (sign_at comma x.1)) one.1
          ∙ ap (if_comma (list_from r fuel) v one.0) (sign_from comma one.0 rest one.2 ∙ n.bare),
      one.2,
    )
list_complete {V} r Form Next h l (suc fuel) (v ∷ (u ∷ us)) front rest le s n =
    let c = s.second in
    let more : List ℕ = c.back ++ rest in
    let whole : front ++ rest ≡ s.front ++ (c.front ++ more) =
    ap (λ (x : List ℕ). x ++ rest) s.split ∙ append_assoc s.front s.back rest
    ∙ ap (λ (x : List ℕ). s.front ++ x) (ap (λ (x : List ℕ). x ++ rest) c.split ∙ append_assoc c.front c.back rest) in
    let one = h.complete v s.front (c.front ++ more) (front ++ rest) s.first (l.next c.front more c.first) whole in
    let begins-more : begins is_solid more ≡ true = begins_append is_solid c.back rest (separated_begins is_solid Form l.begins (u ∷ us) c.back c.second) in
    let sign : sign_at comma one.0 ≡ Some more =
    sign_from comma one.0 (c.front ++ more) one.2 ∙ sign_again comma c.front more refl c.first
    ∙ ap (λ (x : List ℕ). Some x) (skip_solid more begins-more) in
    let others = list_complete r Form Next h l fuel (u ∷ us) c.back rest (omega arith) c.second n in (
      others.0,
      ap (λ (o : Option (V × List ℕ)). o >>= λ x. if_comma (list_from r fuel) x.0 x.1 (sign_at comma x.1)) one.1
          ∙ ap (if_comma (list_from r fuel) v one.0) sign
          ∙ ap (with_first v) others.1,
      others.2,
    )

-- one or more, with commas between them
pub up_list : {V : Type 0} (r : Reader V) (Form : V → List ℕ → Type 0) (Next : List ℕ → Type 0) → ReadsUp r Form Next Same UpTo → ListsUp Form Next
    → ReadsUp (list_at r) (Separated Form) (LastUp Next) Same UpTo
up_list r Form Next h l = record {
  sound = λ text vs rest e. list_sound r Form h.sound (suc (length text)) text vs rest e;
  complete = λ vs front rest start s n e.
      let one = list_complete r Form Next h l (suc (length (front ++ rest))) vs front rest (omega (arith, separated_len Form vs front s, length-append front rest)) s n in
      (one.0, ap (list_at r) e ∙ one.1, one.2);
}

-- ---- lists in braces

-- What the reader of a part asks for where the list stands in braces: the closing brace may follow the last part too.
pub record BracesUp {V : Type 0} (Form : V → List ℕ → Type 0) (Next : List ℕ → Type 0) : Type 0 where
  pub lists : ListsUp Form Next
  pub closes : (front more : List ℕ) → IsSign right_brace front → Next (front ++ more)

-- one or more, and the closing brace
abbrev pub ClosedList : {V : Type 0} → (V → List ℕ → Type 0) → List V → List ℕ → Type 0
ClosedList Form vs = Separated Form vs ▹ IsSign right_brace

pub up_closed_list : {V : Type 0} (r : Reader V) (Form : V → List ℕ → Type 0) (Next : List ℕ → Type 0) → ReadsUp r Form Next Same UpTo → BracesUp Form Next
    → ReadsUp (closed_list_at r) (ClosedList Form) Any Same Skipped
up_closed_list {V} r Form Next h l =
    up_as (up_then (list_at r) (λ vs text. sign_at right_brace text >>= λ close. Some (vs, close)) (Separated Form) (λ vs ws text. (vs ≡ ws) × IsSign right_brace text) (LastUp Next) Any Same UpTo Skipped
    (up_list r Form Next h l.lists) (λ vs. up_close right_brace vs refl)
    (λ vs ws front rest q n. record { next = l.closes front rest q.1; bare = sign_other right_brace comma front rest refl refl q.1 }))
    (λ vs text q. let b = q.1 in subst (λ (us : List V). ClosedList Form us text) b.second.0 (record { front = b.front; back = b.back; split = b.split; first = b.first; second = b.second.1 }))
    (λ vs text b. (vs, record { front = b.front; back = b.back; split = b.split; first = b.first; second = (refl, b.second) }))

closed_begins : {V : Type 0} (Form : V → List ℕ → Type 0) → BeginsWith is_solid Form → BeginsWith is_solid (ClosedList Form)
closed_begins Form h vs text b = both_begins is_solid (Separated Form vs) (IsSign right_brace) (separated_begins is_solid Form h vs) text b

closed_skipped : {V : Type 0} (r : Reader V) (Form : V → List ℕ → Type 0) (Next : List ℕ → Type 0) → ReadsUp r Form Next Same UpTo → BracesUp Form Next → ReadsUp (closed_list_at r) (ClosedList Form) Any Skipped Skipped
closed_skipped r Form Next h l = up_skipped (closed_begins Form l.lists.begins) (up_closed_list r Form Next h l)

-- LBRKT, one or more, RBRKT
pub up_braced : {V : Type 0} (r : Reader V) (Form : V → List ℕ → Type 0) (Next : List ℕ → Type 0) → ReadsUp r Form Next Same UpTo → BracesUp Form Next
    → ReadsUp (braced_at r) (Braced Form) Any UpTo Skipped
up_braced r Form Next h l = up_sign left_brace (closed_list_at r) (ClosedList Form) Any Skipped refl (closed_skipped r Form Next h l)

optional_to : {V : Type 0} (Form : V → List ℕ → Type 0) (vs : List V) (text : List ℕ) → (Braced Form vs text ⊎ (([] ≡ vs) × (text ≡ []))) → OptionalBraced Form vs text
optional_to {V} Form [] text (inl b) = absurd (b.second.first)
optional_to {V} Form (v ∷ vs) text (inl b) = b
optional_to {V} Form vs text (inr n) = subst (λ (us : List V). OptionalBraced Form us text) n.0 n.1

optional_of : {V : Type 0} (Form : V → List ℕ → Type 0) (vs : List V) (text : List ℕ) → OptionalBraced Form vs text → (Braced Form vs text ⊎ (([] ≡ vs) × (text ≡ [])))
optional_of Form vs text b = grind arith

-- [LBRKT, one or more, RBRKT]
pub up_optional : {V : Type 0} (r : Reader V) (Form : V → List ℕ → Type 0) (Next Follow : List ℕ → Type 0) → ReadsUp r Form Next Same UpTo → BracesUp Form Next
    → ReadsUp (optional_at r) (OptionalBraced Form) (NoSign left_brace Follow) UpTo UpTo
unfolding optional_at
up_optional {V} r Form Next Follow h l =
    up_as (up_if_sign left_brace (closed_list_at r) (λ text. Some ([], text)) (ClosedList Form) (λ vs text. ([] ≡ vs) × (text ≡ [])) (NoSign left_brace Follow) UpTo UpTo refl up_up
    (up_next (up_to (closed_skipped r Form Next h l) skipped_up) (λ rest n. tt))
    (up_done [] (NoSign left_brace Follow) UpTo)
    (λ vs front rest q n. ap (λ (x : List ℕ). sign_at left_brace (x ++ rest)) q.1 ∙ n.bare))
    (optional_to Form) (optional_of Form)

empty_cases : {V : Type 0} (Form : V → List ℕ → Type 0) (vs : List V) (text front back : List ℕ) → text ≡ front ++ back → IsSign left_brace front → (Both (IsSign right_brace) (λ t. ([] ≡ vs) × (t ≡ [])) back ⊎ ClosedList Form vs back) → BracedOrEmpty Form vs text
empty_cases {V} Form vs text front back split first (inl q) = grind (arith, append-nil)
empty_cases Form [] text front back split first (inr q) = absurd q.first
empty_cases Form (v ∷ vs) text front back split first (inr q) = record { front = front; back = back; split = split; first = first; second = q }

empty_of : {V : Type 0} (Form : V → List ℕ → Type 0) (vs : List V) (text : List ℕ) → BracedOrEmpty Form vs text → Both (IsSign left_brace) (λ t. Both (IsSign right_brace) (λ t. ([] ≡ vs) × (t ≡ [])) t ⊎ ClosedList Form vs t) text
empty_of Form vs text b = grind (arith, append-nil)

-- LBRKT, any number, RBRKT, where the parts begin with bytes of a class, which has neither the brace nor white space
pub up_braced_or_empty : {V : Type 0} (p : ℕ → Bool) (r : Reader V) (Form : V → List ℕ → Type 0) (Next : List ℕ → Type 0) → ((c : ℕ) → p c ≡ true → is_solid c ≡ true) → p right_brace ≡ false → BeginsWith p Form
    → ReadsUp r Form Next Same UpTo → BracesUp Form Next → ReadsUp (braced_or_empty_at r) (BracedOrEmpty Form) Any UpTo Skipped
unfolding braced_or_empty_at
up_braced_or_empty {V} p r Form Next solid apart begins-p h l =
    up_as (up_sign left_brace (if_sign right_brace (λ close. Some ([], close)) (closed_list_at r)) (λ vs t. Both (IsSign right_brace) (λ t. ([] ≡ vs) × (t ≡ [])) t ⊎ ClosedList Form vs t) Any Skipped refl
    (up_if_sign right_brace (λ close. Some ([], close)) (closed_list_at r) (λ vs t. ([] ≡ vs) × (t ≡ [])) (ClosedList Form) Any Skipped Skipped refl skipped_up
    (up_done [] Any Skipped) (closed_skipped r Form Next h l)
    (λ vs front rest q n. begins_no_sign p right_brace solid apart (front ++ rest) (begins_append p front rest (both_begins p (Separated Form vs) (IsSign right_brace) (separated_begins p Form begins-p vs) front q)))))
    (λ vs text b. empty_cases Form vs text b.front b.back b.split b.first b.second)
    (empty_of Form)
