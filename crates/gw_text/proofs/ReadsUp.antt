-- Readers of forms: what is read from the front of a text has the form, and what has the form is read, whatever
-- follows it that does not go on with it, from where the reader before it stopped. Readers are put together as their
-- forms are.
use Rattle.std.proofs.Common.{◌≡◌, ◌⊎◌, inl, inr, ℕ, ◌≤◌, Bool, true, false, cond, List, [], ◌∷◌, ◌++◌, length, Option, Some, None, refl, ap, sym, subst, ◌∙◌, append_assoc, length-append, arith, append-nil}
use Rattle.std.proofs.lemmas.Bool.{eqb-true, not-true}
use Rattle.gw_base.specs.Lang.{Both, ◌▹◌, IsText}
use Rattle.gw_text.specs.Lexical.{is_space_start, is_solid}
use Rattle.gw_text.specs.Space.{IsSpace}
use Rattle.gw_text.specs.SpaceScan.{skip}
use Rattle.gw_text.specs.Runs.{begins, is_byte}
use Rattle.gw_text.specs.Sign.{byte_at, sign_at, prefix_at}
use Rattle.gw_text.specs.Forms.{IsSign, IsInAnyCase}
use Rattle.gw_text.specs.Reader.{Reader, ◌>>=◌, or_else, if_byte, if_sign, if_prefix, if_begins, if_ahead}
use Rattle.gw_text.proofs.Skips.{skip_space, skip_is, skip_skip, skip_stays}
use Rattle.gw_text.proofs.Signs.{some_is, byte_sound, byte_again, sign_from, sign_sound, sign_again, sign_none, prefix_sound, prefix_again}

-- ---- where a reader starts and stops, measured by the text that it should stand at

-- just there
abbrev pub Same : List ℕ → List ℕ → Type 0
Same start text = start ≡ text

-- there, with the white space skipped
abbrev pub Skipped : List ℕ → List ℕ → Type 0
Skipped start text = start ≡ skip text

-- there, but for white space
abbrev pub UpTo : List ℕ → List ℕ → Type 0
UpTo start text = skip start ≡ skip text

-- anything may follow
abbrev pub Any : List ℕ → Type 0
Any rest = Unit {0}

-- From: where the reader may start. To: where it stops. Next: what may follow the form.
pub record ReadsUp {V : Type 0} (read : Reader V) (Form : V → List ℕ → Type 0) (Next : List ℕ → Type 0) (From To : List ℕ → List ℕ → Type 0) : Type 0 where
  pub sound : (text : List ℕ) (v : V) (rest : List ℕ) → read text ≡ Some (v, rest) → (front : List ℕ) × (text ≡ front ++ rest) × Form v front
  pub complete : (v : V) (front rest start : List ℕ) → Form v front → Next rest → From start (front ++ rest) → (after : List ℕ) × (read start ≡ Some (v, after)) × To after rest

-- each text of the form begins with a byte of the class
abbrev pub BeginsWith : {V : Type 0} → (ℕ → Bool) → (V → List ℕ → Type 0) → Type 0
BeginsWith {V} p Form = (v : V) (text : List ℕ) → Form v text → begins p text ≡ true

-- ---- single steps

pub bind_some : {A B : Type 0} (o : Option A) (f : A → Option B) (y : B) → (o >>= f) ≡ Some y → (x : A) × (o ≡ Some x) × (f x ≡ Some y)
bind_some o f y e = grind arith

pub else_some : {A B : Type 0} (o : Option A) (f : A → Option B) (d : Option B) (y : B) → or_else o f d ≡ Some y → ((x : A) × (o ≡ Some x) × (f x ≡ Some y)) ⊎ ((o ≡ None) × (d ≡ Some y))
else_some o f d y e = grind arith

-- a text of two forms, and what follows
pub both_split : (P Q : List ℕ → Type 0) (front rest : List ℕ) (b : Both P Q front) → front ++ rest ≡ b.front ++ (b.back ++ rest)
both_split P Q front rest b = ap (λ (x : List ℕ). x ++ rest) b.split ∙ append_assoc b.front b.back rest

pub begins_append : (p : ℕ → Bool) (front rest : List ℕ) → begins p front ≡ true → begins p (front ++ rest) ≡ true
begins_append p front rest h = grind arith

-- what begins with one class does not begin with another
pub begins_apart : (p q : ℕ → Bool) → ((c : ℕ) → p c ≡ true → q c ≡ false) → (text : List ℕ) → begins p text ≡ true → begins q text ≡ false
begins_apart p q h text b = grind arith

-- what begins with one class begins with a wider one
pub begins_wider : (p q : ℕ → Bool) → ((c : ℕ) → p c ≡ true → q c ≡ true) → (text : List ℕ) → begins p text ≡ true → begins q text ≡ true
begins_wider p q h text b = grind arith

pub begins_some : (p : ℕ → Bool) (text : List ℕ) → begins p text ≡ true → 1 ≤ length text
begins_some p text b = grind arith

solid_start : (c : ℕ) → is_solid c ≡ true → is_space_start c ≡ false
solid_start c h = not-true (is_space_start c) h

pub skip_solid : (text : List ℕ) → begins is_solid text ≡ true → skip text ≡ text
skip_solid text h = skip_stays text (begins_apart is_solid is_space_start solid_start text h)

-- a byte that is solid
pub byte_is_solid : (b : ℕ) → is_solid b ≡ true → (c : ℕ) → is_byte b c ≡ true → is_solid c ≡ true
byte_is_solid b solid c e = ap is_solid (eqb-true c b e) ∙ solid

-- ---- the same reader, said in other words

-- the same form in other words
pub up_as : {V : Type 0} {read : Reader V} {P Q : V → List ℕ → Type 0} {Next : List ℕ → Type 0} {From To : List ℕ → List ℕ → Type 0} → ReadsUp read P Next From To → ((v : V) (text : List ℕ) → P v text → Q v text) → ((v : V) (text : List ℕ) → Q v text → P v text) → ReadsUp read Q Next From To
up_as h to from = grind arith

-- less may follow
pub up_next : {V : Type 0} {read : Reader V} {Form : V → List ℕ → Type 0} {Next Less : List ℕ → Type 0} {From To : List ℕ → List ℕ → Type 0} → ReadsUp read Form Next From To → ((rest : List ℕ) → Less rest → Next rest) → ReadsUp read Form Less From To
up_next h less = grind arith

-- it is said less exactly where the reader stops
pub up_to : {V : Type 0} {read : Reader V} {Form : V → List ℕ → Type 0} {Next : List ℕ → Type 0} {From To Wide : List ℕ → List ℕ → Type 0} → ReadsUp read Form Next From To → ((after rest : List ℕ) → To after rest → Wide after rest) → ReadsUp read Form Next From Wide
up_to h wide = grind arith

-- the reader starts at fewer places
pub up_from : {V : Type 0} {read : Reader V} {Form : V → List ℕ → Type 0} {Next : List ℕ → Type 0} {From Few To : List ℕ → List ℕ → Type 0} → ReadsUp read Form Next From To → ((start text : List ℕ) → Few start text → From start text) → ReadsUp read Form Next Few To
up_from h few = grind arith

pub same_up : (start text : List ℕ) → Same start text → UpTo start text
same_up start text e = ap skip e

pub up_up : (start text : List ℕ) → UpTo start text → UpTo start text
up_up start text e = e

pub skipped_up : (start text : List ℕ) → Skipped start text → UpTo start text
skipped_up start text e = ap skip e ∙ skip_skip text

-- a form that begins with no white space is read from where white space was skipped
pub up_skipped : {V : Type 0} {read : Reader V} {Form : V → List ℕ → Type 0} {Next : List ℕ → Type 0} {To : List ℕ → List ℕ → Type 0} → BeginsWith is_solid Form → ReadsUp read Form Next Same To → ReadsUp read Form Next Skipped To
up_skipped begins_solid h = record {
  sound = h.sound;
  complete = λ v front rest start q n e. h.complete v front rest start q n (e ∙ skip_solid (front ++ rest) (begins_append is_solid front rest (begins_solid v front q)));
}

-- what is left is no longer
pub up_shrinks : {V : Type 0} {read : Reader V} {Form : V → List ℕ → Type 0} {Next : List ℕ → Type 0} {From To : List ℕ → List ℕ → Type 0} → ReadsUp read Form Next From To → (text : List ℕ) (v : V) (rest : List ℕ) → read text ≡ Some (v, rest) → length rest ≤ length text
up_shrinks h text v rest e = grind (arith, length-append)

-- ---- one reader behind another

-- a value, and then another that may rest on it: x ← r text, and then k
pub up_then : {V W : Type 0} (r : Reader V) (k : V → Reader W) (P : V → List ℕ → Type 0) (Q : V → W → List ℕ → Type 0) (Next1 Next2 : List ℕ → Type 0) (From Mid To : List ℕ → List ℕ → Type 0)
    → ReadsUp r P Next1 From Mid → ((v : V) → ReadsUp (k v) (Q v) Next2 Mid To)
    → ((v : V) (w : W) (front rest : List ℕ) → Q v w front → Next2 rest → Next1 (front ++ rest))
    → ReadsUp (λ text. r text >>= λ x. k x.0 x.1) (λ w text. (v : V) × Both (P v) (Q v w) text) Next2 From To
up_then {V} {W} r k P Q Next1 Next2 From Mid To h g link = record {
  sound = λ text w rest e.
      let b = bind_some (r text) (λ x. k x.0 x.1) (w, rest) e in
      let s = h.sound text b.0.0 b.0.1 b.1 in
      let t = (g b.0.0).sound b.0.1 w rest b.2 in
      (s.0 ++ t.0, s.1 ∙ ap (λ (x : List ℕ). s.0 ++ x) t.1 ∙ sym (append_assoc s.0 t.0 rest), (b.0.0, record { front = s.0; back = t.0; split = refl; first = s.2; second = t.2 }));
  complete = λ w front rest start q n e.
      let v = q.0 in
      let b = q.1 in
      let one = h.complete v b.front (b.back ++ rest) start b.first (link v w b.back rest b.second n) (subst (From start) (both_split (P v) (Q v w) front rest b) e) in
      let two = (g v).complete w b.back rest one.0 b.second n one.2 in
      (two.0, ap (λ (o : Option (V × List ℕ)). o >>= λ x. k x.0 x.1) one.1 ∙ two.1, two.2);
}

-- the last value, of which the whole is made: x ← r text, and then Some (f x.0, x.1)
pub up_last : {V W : Type 0} (r : Reader V) (f : V → W) (P : V → List ℕ → Type 0) (Next : List ℕ → Type 0) (From To : List ℕ → List ℕ → Type 0) → ReadsUp r P Next From To
    → ReadsUp (λ text. r text >>= λ x. Some (f x.0, x.1)) (λ w text. (v : V) × (f v ≡ w) × P v text) Next From To
up_last {V} {W} r f P Next From To h = record {
  sound = λ text w rest e.
      let b = bind_some (r text) (λ x. Some (f x.0, x.1)) (w, rest) e in
      let made : W × List ℕ = (f b.0.0, b.0.1) in
      let same = some_is made (w, rest) b.2 in
      let s = h.sound text b.0.0 b.0.1 b.1 in
      (s.0, s.1 ∙ ap (λ (p : W × List ℕ). s.0 ++ p.1) same, (b.0.0, ap (λ (p : W × List ℕ). p.0) same, s.2));
  complete = λ w front rest start q n e.
      let one = h.complete q.0 front rest start q.2 n e in
      (one.0, ap (λ (o : Option (V × List ℕ)). o >>= λ x. Some (f x.0, x.1)) one.1 ∙ ap (λ (x : W). Some (x, one.0)) q.1, one.2);
}

-- nothing is read, and the value is v: Some (v, text)
pub up_done : {W : Type 0} (v : W) (Next : List ℕ → Type 0) (Where : List ℕ → List ℕ → Type 0) → ReadsUp (λ text. Some (v, text)) (λ w text. (v ≡ w) × (text ≡ [])) Next Where Where
up_done {W} v Next Where = record {
  sound = λ text w rest e.
      let made : W × List ℕ = (v, text) in
      let same = some_is made (w, rest) e in
      ([], ap (λ (p : W × List ℕ). p.1) same, (ap (λ (p : W × List ℕ). p.0) same, refl));
  complete = λ w front rest start q n e. (start, ap (λ (x : W). Some (x, start)) q.0, subst (λ (x : List ℕ). Where start (x ++ rest)) q.1 e);
}

-- ---- what carries no value, and a reader behind it: rest ← .. text, and then k rest

-- two steps of one reader
behind_sound : {W : Type 0} (P : List ℕ → Type 0) (Q : W → List ℕ → Type 0) (w : W) (text mid rest : List ℕ) → ((front : List ℕ) × (text ≡ front ++ mid) × P front) → ((front : List ℕ) × (mid ≡ front ++ rest) × Q w front) → (front : List ℕ) × (text ≡ front ++ rest) × Both P (Q w) front
behind_sound P Q w text mid rest s t =
    (s.0 ++ t.0, s.1 ∙ ap (λ (y : List ℕ). s.0 ++ y) t.1 ∙ sym (append_assoc s.0 t.0 rest), record { front = s.0; back = t.0; split = refl; first = s.2; second = t.2 })

-- what goes on behind a text of a form. From: where it may start. Mid: where it goes on.
record TakesForm (at : List ℕ → Option (List ℕ)) (S : List ℕ → Type 0) (From Mid : List ℕ → List ℕ → Type 0) : Type 0 where
  sound : (text rest : List ℕ) → at text ≡ Some rest → (front : List ℕ) × (text ≡ front ++ rest) × S front
  complete : (front rest start : List ℕ) → S front → From start (front ++ rest) → (after : List ℕ) × (at start ≡ Some after) × Mid after rest

takes_sign : (b : ℕ) (From : List ℕ → List ℕ → Type 0) → is_space_start b ≡ false → ((start text : List ℕ) → From start text → UpTo start text) → TakesForm (sign_at b) (IsSign b) From Skipped
takes_sign b From solid up = record {
  sound = sign_sound b;
  complete = λ front rest start s e. (skip rest, sign_from b start (front ++ rest) (up start (front ++ rest) e) ∙ sign_again b front rest solid s, refl);
}

takes_byte : (b : ℕ) → TakesForm (byte_at b) (IsText (b ∷ [])) Same Same
takes_byte b = grind (arith, byte_again, byte_sound)

takes_prefix : (bytes : List ℕ) → TakesForm (prefix_at bytes) (IsInAnyCase bytes) Same Same
takes_prefix bytes = grind (arith, prefix_again, prefix_sound)

takes_space : TakesForm (λ text. Some (skip text)) IsSpace UpTo Skipped
takes_space = record {
  sound = λ text rest e. let s = skip_is text in (s.front, s.split ∙ ap (λ (x : List ℕ). s.front ++ x) (s.second ∙ some_is (skip text) rest e), s.first);
  complete = λ front rest start s e. (skip start, refl, e ∙ skip_space front rest s);
}

up_behind : {W : Type 0} {at : List ℕ → Option (List ℕ)} {S : List ℕ → Type 0} {k : Reader W} {Q : W → List ℕ → Type 0} {Next : List ℕ → Type 0} {From Mid To : List ℕ → List ℕ → Type 0}
    → TakesForm at S From Mid → ReadsUp k Q Next Mid To → ReadsUp (λ text. at text >>= k) (λ w. S ▹ Q w) Next From To
up_behind {at = at} {S = S} {k = k} {Q = Q} {From = From} t h = record {
  sound = λ text w rest e.
      let x = bind_some (at text) k (w, rest) e in
      behind_sound S Q w text x.0 rest (t.sound text x.0 x.1) (h.sound x.0 w rest x.2);
  complete = λ w front rest start q n e.
      let one = t.complete q.front (q.back ++ rest) start q.first (subst (From start) (both_split S (Q w) front rest q) e) in
      let two = h.complete w q.back rest one.0 q.second n one.2 in
      (two.0, ap (λ (o : Option (List ℕ)). o >>= k) one.1 ∙ two.1, two.2);
}

-- the sign b
pub up_sign : {W : Type 0} (b : ℕ) (k : Reader W) (Q : W → List ℕ → Type 0) (Next : List ℕ → Type 0) (To : List ℕ → List ℕ → Type 0) → is_space_start b ≡ false → ReadsUp k Q Next Skipped To
    → ReadsUp (λ text. sign_at b text >>= k) (λ w. IsSign b ▹ Q w) Next UpTo To
up_sign b k Q Next To solid h = up_behind (takes_sign b UpTo solid up_up) h

-- the sign b, and that was all: rest ← sign_at b text, and then Some (v, rest)
pub up_close : {W : Type 0} (b : ℕ) (v : W) → is_space_start b ≡ false → ReadsUp (λ text. sign_at b text >>= λ rest. Some (v, rest)) (λ w text. (v ≡ w) × IsSign b text) Any UpTo Skipped
up_close b v solid =
    up_as (up_behind (takes_sign b UpTo solid up_up) (up_done v Any Skipped))
    (λ w text q. (q.second.0, subst (IsSign b) (sym (append-nil q.front) ∙ ap (λ (x : List ℕ). q.front ++ x) (sym q.second.1) ∙ sym q.split) q.first))
    (λ w text q. record { front = text; back = []; split = sym (append-nil text); first = q.1; second = (q.0, refl) })

-- the byte b, with nothing between
pub up_byte : {W : Type 0} (b : ℕ) (k : Reader W) (Q : W → List ℕ → Type 0) (Next : List ℕ → Type 0) (To : List ℕ → List ℕ → Type 0) → ReadsUp k Q Next Same To
    → ReadsUp (λ text. byte_at b text >>= k) (λ w. IsText (b ∷ []) ▹ Q w) Next Same To
up_byte b k Q Next To h = up_behind (takes_byte b) h

-- white space, which may be empty: k (skip text)
pub up_space : {W : Type 0} (k : Reader W) (Q : W → List ℕ → Type 0) (Next : List ℕ → Type 0) (To : List ℕ → List ℕ → Type 0) → ReadsUp k Q Next Skipped To
    → ReadsUp (λ text. k (skip text)) (λ w. IsSpace ▹ Q w) Next UpTo To
up_space k Q Next To h = up_behind takes_space h

-- ---- one of two

-- on behind a text of the form S, or other without it
up_if : {V : Type 0} {at : List ℕ → Option (List ℕ)} {S : List ℕ → Type 0} {on other : Reader V} {P Q : V → List ℕ → Type 0} {Next : List ℕ → Type 0} {From Mid To : List ℕ → List ℕ → Type 0}
    → TakesForm at S From Mid → ReadsUp on P Next Mid To → ReadsUp other Q Next From To → ((v : V) (front rest start : List ℕ) → Q v front → Next rest → From start (front ++ rest) → at start ≡ None)
    → ReadsUp (λ text. or_else (at text) on (other text)) (λ v text. Both S (P v) text ⊎ Q v text) Next From To
up_if {at = at} {S = S} {on = on} {other = other} {P = P} {From = From} t h g bare = record {
  sound = λ text v rest e.
      elim (else_some (at text) on (other text) (v, rest) e) [
        | inl x ↦ let b = behind_sound S P v text x.0 rest (t.sound text x.0 x.1) (h.sound x.0 v rest x.2) in (b.0, b.1, inl b.2)
        | inr x ↦ let b = g.sound text v rest x.1 in (b.0, b.1, inr b.2)
      ];
  complete = λ v front rest start q n e.
      elim q [
        | inl p ↦
            let one = t.complete p.front (p.back ++ rest) start p.first (subst (From start) (both_split S (P v) front rest p) e) in
            let two = h.complete v p.back rest one.0 p.second n one.2 in
            (two.0, ap (λ (o : Option (List ℕ)). or_else o on (other start)) one.1 ∙ two.1, two.2)
        | inr p ↦
            let two = g.complete v front rest start p n e in
            (two.0, ap (λ (o : Option (List ℕ)). or_else o on (other start)) (bare v front rest start p n e) ∙ two.1, two.2)
      ];
}

-- on behind the sign b, or other without it
pub up_if_sign : {V : Type 0} (b : ℕ) (on other : Reader V) (P Q : V → List ℕ → Type 0) (Next : List ℕ → Type 0) (From To : List ℕ → List ℕ → Type 0) → is_space_start b ≡ false → ((start text : List ℕ) → From start text → UpTo start text)
    → ReadsUp on P Next Skipped To → ReadsUp other Q Next From To → ((v : V) (front rest : List ℕ) → Q v front → Next rest → sign_at b (front ++ rest) ≡ None)
    → ReadsUp (if_sign b on other) (λ v text. Both (IsSign b) (P v) text ⊎ Q v text) Next From To
up_if_sign b on other P Q Next From To solid up h g bare =
    up_if (takes_sign b From solid up) h g (λ v front rest start q n e. sign_from b start (front ++ rest) (up start (front ++ rest) e) ∙ bare v front rest q n)

-- on behind the byte b, or other without it
pub up_if_byte : {V : Type 0} (b : ℕ) (on other : Reader V) (P Q : V → List ℕ → Type 0) (Next : List ℕ → Type 0) (To : List ℕ → List ℕ → Type 0)
    → ReadsUp on P Next Same To → ReadsUp other Q Next Same To → ((v : V) (front rest : List ℕ) → Q v front → Next rest → byte_at b (front ++ rest) ≡ None)
    → ReadsUp (if_byte b on other) (λ v text. Both (IsText (b ∷ [])) (P v) text ⊎ Q v text) Next Same To
up_if_byte b on other P Q Next To h g bare = up_if (takes_byte b) h g (λ v front rest start q n e. ap (byte_at b) e ∙ bare v front rest q n)

-- on behind these bytes in any case, or other without them
pub up_if_prefix : {V : Type 0} (bytes : List ℕ) (on other : Reader V) (P Q : V → List ℕ → Type 0) (Next : List ℕ → Type 0) (To : List ℕ → List ℕ → Type 0)
    → ReadsUp on P Next Same To → ReadsUp other Q Next Same To → ((v : V) (front rest : List ℕ) → Q v front → Next rest → prefix_at bytes (front ++ rest) ≡ None)
    → ReadsUp (if_prefix bytes on other) (λ v text. Both (IsInAnyCase bytes) (P v) text ⊎ Q v text) Next Same To
up_if_prefix bytes on other P Q Next To h g bare = up_if (takes_prefix bytes) h g (λ v front rest start q n e. ap (prefix_at bytes) e ∙ bare v front rest q n)

choice_sound : {V : Type 0} (P Q : V → List ℕ → Type 0) (v : V) (text rest : List ℕ) (t : Bool) (a d : Option (V × List ℕ)) → cond t a d ≡ Some (v, rest)
    → (a ≡ Some (v, rest) → (front : List ℕ) × (text ≡ front ++ rest) × P v front) → (d ≡ Some (v, rest) → (front : List ℕ) × (text ≡ front ++ rest) × Q v front)
    → (front : List ℕ) × (text ≡ front ++ rest) × (P v front ⊎ Q v front)
choice_sound P Q v text rest t a d e f g = grind arith

-- on where a byte of the class comes next, which it takes too; else other: from anywhere, where the two forms tell what they begin with there
pub up_if_begins_from : {V : Type 0} (p : ℕ → Bool) (on other : Reader V) (P Q : V → List ℕ → Type 0) (Next : List ℕ → Type 0) (From To : List ℕ → List ℕ → Type 0)
    → ReadsUp on P Next From To → ReadsUp other Q Next From To
    → ((v : V) (front rest start : List ℕ) → P v front → Next rest → From start (front ++ rest) → begins p start ≡ true)
    → ((v : V) (front rest start : List ℕ) → Q v front → Next rest → From start (front ++ rest) → begins p start ≡ false)
    → ReadsUp (if_begins p on other) (λ v text. P v text ⊎ Q v text) Next From To
up_if_begins_from {V} p on other P Q Next From To h g first bare = record {
  sound = λ text v rest e. choice_sound P Q v text rest (begins p text) (on text) (other text) e (λ i. h.sound text v rest i) (λ i. g.sound text v rest i);
  complete = λ v front rest start q n e.
      elim q [
        | inl a ↦
            let two = h.complete v front rest start a n e in
            (two.0, ap (λ (t : Bool). cond t (on start) (other start)) (first v front rest start a n e) ∙ two.1, two.2)
        | inr a ↦
            let two = g.complete v front rest start a n e in
            (two.0, ap (λ (t : Bool). cond t (on start) (other start)) (bare v front rest start a n e) ∙ two.1, two.2)
      ];
}

-- the same from just there
pub up_if_begins : {V : Type 0} (p : ℕ → Bool) (on other : Reader V) (P Q : V → List ℕ → Type 0) (Next : List ℕ → Type 0) (To : List ℕ → List ℕ → Type 0)
    → ReadsUp on P Next Same To → ReadsUp other Q Next Same To → BeginsWith p P → ((v : V) (front rest : List ℕ) → Q v front → Next rest → begins p (front ++ rest) ≡ false)
    → ReadsUp (if_begins p on other) (λ v text. P v text ⊎ Q v text) Next Same To
up_if_begins p on other P Q Next To h g first bare = grind (arith, begins_append, up_if_begins_from)

-- on behind white space where the byte b comes next there, which on takes too; else other
pub up_if_ahead : {V : Type 0} (b : ℕ) (on other : Reader V) (P Q : V → List ℕ → Type 0) (Next : List ℕ → Type 0) (From To : List ℕ → List ℕ → Type 0) → is_solid b ≡ true → ((start text : List ℕ) → From start text → UpTo start text)
    → ReadsUp on P Next Same To → ReadsUp other Q Next From To → BeginsWith (is_byte b) P → ((v : V) (front rest : List ℕ) → Q v front → Next rest → sign_at b (front ++ rest) ≡ None)
    → ReadsUp (if_ahead b on other) (λ v text. Both IsSpace (P v) text ⊎ Q v text) Next From To
up_if_ahead {V} b on other P Q Next From To solid up h g first bare = record {
  sound = λ text v rest e.
      choice_sound (λ w. Both IsSpace (P w)) Q v text rest (begins (is_byte b) (skip text)) (on (skip text)) (other text) e
      (λ i. behind_sound IsSpace P v text (skip text) rest (takes_space.sound text (skip text) refl) (h.sound (skip text) v rest i))
      (λ i. g.sound text v rest i);
  complete = λ v front rest start q n e.
      elim q [
        | inl p ↦
            let begins-b : begins (is_byte b) (p.back ++ rest) ≡ true = begins_append (is_byte b) p.back rest (first v p.back p.second) in
            let at : skip start ≡ p.back ++ rest = up start (front ++ rest) e ∙ ap skip (both_split IsSpace (P v) front rest p) ∙ skip_space p.front (p.back ++ rest) p.first
            ∙ skip_solid (p.back ++ rest) (begins_wider (is_byte b) is_solid (byte_is_solid b solid) (p.back ++ rest) begins-b) in
            let two = h.complete v p.back rest (skip start) p.second n at in
            (two.0, ap (λ (t : Bool). cond t (on (skip start)) (other start)) (ap (begins (is_byte b)) at ∙ begins-b) ∙ two.1, two.2)
        | inr p ↦
            let two = g.complete v front rest start p n e in
            let one : begins (is_byte b) (skip start) ≡ false = sign_none b start (sign_from b start (front ++ rest) (up start (front ++ rest) e) ∙ bare v front rest p n) in
            (two.0, ap (λ (t : Bool). cond t (on (skip start)) (other start)) one ∙ two.1, two.2)
      ];
}
