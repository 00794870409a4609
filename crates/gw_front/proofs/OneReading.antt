-- A text is one header at most, and one record.
use Rattle.std.proofs.Common.{◌≡◌, ℕ, ◌==◌, Bool, ◌||◌, List, [], ◌∷◌, ◌++◌, length, codes, refl, ap, ap₂, sym, subst, ◌∙◌, arith, append_assoc}
use Rattle.std.proofs.lemmas.List.Folds.{list_any-append}
use Rattle.gw_engine.specs.declared.datagram.Datagram.{Datagram}
use Rattle.gw_front.specs.Records.{IsRecordHeader, IsHeaderLine, IsRecord}
use Rattle.gw_front.specs.RecordFaults.{HasNoLineFeed}
use Rattle.gw_front.proofs.HeaderForms.{cut_once, header_parts, digits_without_space, digits_without_feed}

-- ---- headers

plain_append : (a b : List ℕ) → HasNoLineFeed a → HasNoLineFeed b → HasNoLineFeed (a ++ b)
plain_append a b p q = list_any-append (λ c. c == 10) a b ∙ ap₂ (λ (x y : Bool). x || y) p q

-- a header has no line feed
pub header_plain : (line : List ℕ) (peer len : ℕ) → IsRecordHeader peer len line → HasNoLineFeed line
header_plain line peer len h =
    rw (h.split, h.first, h.second.split, h.second.second.split, h.second.second.first)
    (plain_append (codes "D ") (h.second.front ++ (codes " " ++ h.second.second.back)) refl
    (plain_append h.second.front (codes " " ++ h.second.second.back) (digits_without_feed h.second.front h.second.first.digits)
    (plain_append (codes " ") h.second.second.back refl (digits_without_feed h.second.second.back h.second.second.second.number.digits))))

-- a line is one header at most
pub header_one : (line : List ℕ) (p l q m : ℕ) → IsRecordHeader p l line → IsRecordHeader q m line → (p ≡ q) × (l ≡ m)
header_one line p l q m h k =
    let begins : line ≡ codes "D " ++ k.back = k.split ∙ ap (λ (x : List ℕ). x ++ k.back) k.first in
    let inner : k.back ≡ k.second.front ++ 32 ∷ k.second.second.back =
    k.second.split ∙ ap (λ (x : List ℕ). k.second.front ++ x) (k.second.second.split ∙ ap (λ (x : List ℕ). x ++ k.second.second.back) k.second.second.first) in
    let parts = header_parts line k.back k.second.front k.second.second.back p l begins inner (digits_without_space k.second.front k.second.first.digits) h in
    (sym parts.0.value ∙ k.second.first.value, sym parts.1.number.value ∙ k.second.second.second.number.value)

-- a text that begins with the line of a header
pub record IsHeaded (text : List ℕ) (peer len : ℕ) (after : List ℕ) : Type 0 where
  pub line : List ℕ
  pub split : text ≡ line ++ 10 ∷ after
  pub form : IsRecordHeader peer len line

-- one header at most, and one text behind it
pub headed_one : (text : List ℕ) (p l q m : ℕ) (a b : List ℕ) → IsHeaded text p l a → IsHeaded text q m b → (p ≡ q) × (l ≡ m) × (a ≡ b)
headed_one text p l q m a b h k =
    let r = cut_once 10 h.line a k.line b (header_plain h.line p l h.form) (header_plain k.line q m k.form) (sym h.split ∙ k.split) in
    let same = header_one h.line p l q m h.form (subst (IsRecordHeader q m) (sym r.0) k.form) in
    (same.0, same.1, r.1)

pub headed_line : (text header after : List ℕ) (peer len : ℕ) → text ≡ header ++ after → IsHeaderLine peer len header → IsHeaded text peer len after
headed_line text header after peer len split h = record {
  line = h.front;
  split = split ∙ ap (λ (l : List ℕ). l ++ after) (h.split ∙ ap (λ (l : List ℕ). h.front ++ l) h.second) ∙ append_assoc h.front (10 ∷ []) after;
  form = h.first;
}

-- it begins with a D
pub begins_d : (text : List ℕ) (peer len : ℕ) (after : List ℕ) → IsHeaded text peer len after → (rest : List ℕ) × (text ≡ 68 ∷ rest)
begins_d text peer len after h =
    ((32 ∷ h.form.back) ++ 10 ∷ after, h.split ∙ ap (λ (l : List ℕ). l ++ 10 ∷ after) (h.form.split ∙ ap (λ (l : List ℕ). l ++ h.form.back) h.form.first))

-- ---- records

pub same_fronts : (a b x y : List ℕ) → length a ≡ length b → a ++ x ≡ b ++ y → (a ≡ b) × (x ≡ y)
same_fronts [] [] x y l e = (refl, e)
same_fronts [] (c ∷ cs) x y l e = absurd (omega arith)
same_fronts (c ∷ cs) [] x y l e = absurd (omega arith)
same_fronts (c ∷ cs) (d ∷ ds) x y l e =
    let shorter : length cs ≡ length ds = omega arith in
    let tails : cs ++ x ≡ ds ++ y = cc in
    let r = same_fronts cs ds x y shorter tails in
    let heads : c ≡ d = cc in
    (cc (heads, r.0), r.1)

pub record_headed : (d : Datagram) (text t r : List ℕ) → IsRecord d t → text ≡ t ++ r → IsHeaded text d.peer (length d.bytes) (d.bytes ++ 10 ∷ r)
record_headed d text t r h e =
    let f = h.form in
    let whole : text ≡ f.front ++ (f.back ++ r) = e ∙ ap (λ (l : List ℕ). l ++ r) f.split ∙ append_assoc f.front f.back r in
    let bytes : f.back ++ r ≡ d.bytes ++ 10 ∷ r =
    ap (λ (l : List ℕ). l ++ r) (f.second.split ∙ ap (λ (l : List ℕ). l ++ f.second.back) f.second.first ∙ ap (λ (l : List ℕ). d.bytes ++ l) f.second.second) ∙ append_assoc d.bytes (10 ∷ []) r in
    headed_line text f.front (d.bytes ++ 10 ∷ r) d.peer (length d.bytes) (whole ∙ ap (λ (l : List ℕ). f.front ++ l) bytes) f.first

pub record_one : (d e : Datagram) (text t r u s : List ℕ) → IsRecord d t → text ≡ t ++ r → IsRecord e u → text ≡ u ++ s → (d ≡ e) × (r ≡ s)
record_one d e text t r u s h p k q =
    let same = headed_one text d.peer (length d.bytes) e.peer (length e.bytes) (d.bytes ++ 10 ∷ r) (e.bytes ++ 10 ∷ s) (record_headed d text t r h p) (record_headed e text u s k q) in
    let bytes = same_fronts d.bytes e.bytes (10 ∷ r) (10 ∷ s) same.1 same.2 in
    let tails = bytes.1 in
    (λ i. record { peer = same.0 i; bytes = bytes.0 i }, cc)
