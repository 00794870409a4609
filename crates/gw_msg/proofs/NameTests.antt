-- The tests of `NameWords` find the forms of gw_base.
use Rattle.std.proofs.Common.{◌≡◌, ◌⊎◌, inl, ℕ, ◌-◌, ◌<◌, ◌≤◌, Bool, true, cond, ◌||◌, List, [], ◌∷◌, ◌++◌, length, length-append, refl, sym, subst, arith}
use Rattle.std.specs.Prelude.{codes}
use Rattle.std.specs.Bool.{Decides}
use Rattle.std.specs.List.{list_all, list_any}
use Rattle.std.proofs.lemmas.Bool.Decides.{Decides-and, Decides-or, Decides-like}
use Rattle.std.proofs.lemmas.List.{take_at}
use Rattle.std.proofs.lemmas.Slice.Eq.{bytes_eq-Decides}
use Rattle.gw_base.specs.Lang.{Both, ◌▹◌, IsText}
use Rattle.gw_base.specs.Addresses.{is_address_byte, IsAddress, address_max}
use Rattle.gw_base.specs.Mids.{IsDomain, IsPort, IsOptionalPort, IsDevice, IsMid}
use Rattle.gw_base.specs.TermRefs.{IsChoose, IsClass}
use Rattle.gw_base.specs.Wildcards.{is_wildcard_byte, IsTermText, IsRoot, IsUnder}
use Rattle.gw_base.specs.declared.term_ref.TermRef.TheVariants.{Root, All, Choose, Under, Name, Other}
use Rattle.gw_msg.specs.NameWords.{is_bytes, is_term_text, without_last, term_class, splits, is_text, is_address, is_domain, is_device, is_port, is_optional_port, is_bracketed, is_mid}

-- ---- runs of bytes

abbrev AreBytes : ℕ → (ℕ → Bool) → List ℕ → Type 0
AreBytes most p text = (0 < length text) × ((length text ≤ most) × (list_all p text ≡ true))

decides_bytes : (most : ℕ) (p : ℕ → Bool) (text : List ℕ) → Decides (is_bytes most p text) (AreBytes most p text)
decides_bytes most p text = grind arith

-- ---- TerminationIDs

pub decides_term_text : (text : List ℕ) → Decides (is_term_text text) (IsTermText text)
decides_term_text text = grind arith

prefix_is : (prefix text : List ℕ) → IsUnder prefix text → without_last text ≡ prefix
prefix_is prefix text h = grind (arith, length-append, take_at)

class_by : (text : List ℕ) (r a c u w : Bool) → Decides r (IsRoot text) → Decides a (text ≡ codes "*") → Decides c (IsChoose text) → Decides u (IsUnder (without_last text) text) → list_any is_wildcard_byte text ≡ w
    → IsClass (cond r Root (cond a All (cond c Choose (cond u (Under (without_last text)) (cond w (Other text) (Name text)))))) text
class_by text r a c u w root all choose under wild = grind (arith, prefix_is)

pub class_fits : (text : List ℕ) → IsClass (term_class text) text
class_fits text = grind (arith, class_by, bytes_eq-Decides)

-- ---- one form behind another

-- a front of no bytes, or of one more
joined : (P Q : List ℕ → Type 0) (c : ℕ) (cs : List ℕ) → (P [] × Q (c ∷ cs)) ⊎ Both (λ x. P (c ∷ x)) Q cs → Both P Q (c ∷ cs)
joined P Q c cs h = grind arith

parted : (P Q : List ℕ → Type 0) (c : ℕ) (cs front back : List ℕ) → c ∷ cs ≡ front ++ back → P front → Q back → (P [] × Q (c ∷ cs)) ⊎ Both (λ x. P (c ∷ x)) Q cs
parted P Q c cs [] back e p q = inl (p, subst Q (sym e) q)
parted P Q c cs (a ∷ front) back e p q = grind arith

no_bytes : (P Q : List ℕ → Type 0) (front back : List ℕ) → [] ≡ front ++ back → P front → Q back → P [] × Q []
no_bytes P Q [] back e p q = (p, subst Q (sym e) q)
no_bytes P Q (a ∷ front) back e p q = absurd cc

decides_splits : (P Q : List ℕ → Type 0) (p q : List ℕ → Bool) → ((text : List ℕ) → Decides (p text) (P text)) → ((text : List ℕ) → Decides (q text) (Q text)) → (text : List ℕ) → Decides (splits p q text) ((P ▹ Q) text)
decides_splits P Q p q h k [] =
    Decides-like (splits p q []) (λ x. record { front = []; back = []; split = refl; first = x.0; second = x.1 }) (λ b. no_bytes P Q b.front b.back b.split b.first b.second)
    (Decides-and (p []) (q []) (h []) (k []))
decides_splits P Q p q h k (c ∷ cs) = grind (arith, decides_splits (λ x. P (c ∷ x)) Q (λ front. p (c ∷ front)) q (λ x. h (c ∷ x)) k cs, joined, parted)

-- ---- mIds

decides_text : (bytes text : List ℕ) → Decides (is_text bytes text) (IsText bytes text)
decides_text bytes text = bytes_eq-Decides text bytes

decides_address : (text : List ℕ) → Decides (is_address text) (IsAddress text)
decides_address text = Decides-like (is_address text) (λ h. record { some = h.0; short = h.1.0; each = h.1.1 }) (λ h. (h.some, (h.short, h.each))) (decides_bytes address_max is_address_byte text)

decides_domain : (text : List ℕ) → Decides (is_domain text) (IsDomain text)
decides_domain text = grind arith

decides_device : (text : List ℕ) → Decides (is_device text) (IsDevice text)
decides_device text = grind arith

decides_port : (text : List ℕ) → Decides (is_port text) (IsPort text)
decides_port text = grind arith

decides_optional_port : (text : List ℕ) → Decides (is_optional_port text) (IsOptionalPort text)
decides_optional_port text =
    Decides-or (is_text [] text) (splits (is_text (codes ":")) is_port text) (decides_text [] text)
    (decides_splits (IsText (codes ":")) IsPort (is_text (codes ":")) is_port (decides_text (codes ":")) decides_port text)

decides_bracketed : (left right : List ℕ) (P : List ℕ → Type 0) (p : List ℕ → Bool) → ((text : List ℕ) → Decides (p text) (P text)) → (text : List ℕ) → Decides (is_bracketed left right p text) ((IsText left ▹ P ▹ IsText right ▹ IsOptionalPort) text)
decides_bracketed left right P p h =
    decides_splits (IsText left) (P ▹ IsText right ▹ IsOptionalPort) (is_text left) (splits p (splits (is_text right) is_optional_port)) (decides_text left)
    (decides_splits P (IsText right ▹ IsOptionalPort) p (splits (is_text right) is_optional_port) h
    (decides_splits (IsText right) IsOptionalPort (is_text right) is_optional_port (decides_text right) decides_optional_port))

pub decides_mid : (text : List ℕ) → Decides (is_mid text) (IsMid text)
decides_mid text =
    let address = is_bracketed (codes "[") (codes "]") is_address text in
    let domain = is_bracketed (codes "<") (codes ">") is_domain text in
    Decides-or address (domain || is_device text) (decides_bracketed (codes "[") (codes "]") IsAddress is_address decides_address text)
    (Decides-or domain (is_device text) (decides_bracketed (codes "<") (codes ">") IsDomain is_domain decides_domain text) (decides_device text))
