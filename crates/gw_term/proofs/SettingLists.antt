-- What a list sets, from one setting to the next, and what stands at a number or at a kind then.
use denote.Ref.{Bor}
use Rattle.std.proofs.Common.{◌≡◌, ℕ, ◌+◌, ◌<◌, ◌==◌, if◌then◌else◌, Bool, true, false, List, [], ◌∷◌, ◌++◌, length, take, get_or, Option, Some, refl, ap, sym, ◌∙◌, add-one}
use Rattle.std.proofs.Math.Seq.{take-suc}
use Rattle.std.specs.Option.{option_copied}
use Rattle.gw_desc.specs.Checks.{same_kept}
use Rattle.gw_desc.specs.declared.descriptor.KeptKind.{KeptKind}
use Rattle.gw_term.specs.Places.{numbered, at_number, put_number, numbers_read, of_kinds, at_kind, put_kind, kinds_read}
use Rattle.gw_term.specs.Settings.{Settings, nothing_set, with_setting, with_settings, set_by}
use Rattle.gw_term.specs.declared.places.PerKind.{PerKind}
use Rattle.gw_term.specs.declared.places.PerStream.{PerStream}
use Rattle.gw_term.specs.declared.settings.ByPlace.{ByPlace}
use Rattle.gw_term.specs.declared.settings.Setting.{Setting}

with_both : (xs ys : List Setting) (s : Settings) → with_settings (xs ++ ys) s ≡ with_settings ys (with_settings xs s)
with_both [] ys s = refl
with_both (x ∷ xs) ys s = with_both xs ys (with_setting x s)

-- a setting behind a list
pub set_last : (list : List Setting) (x : Setting) → set_by (list ++ x ∷ []) ≡ with_setting x (set_by list)
set_last list x = with_both list (x ∷ []) nothing_set

-- one setting more
pub set_more : (list : List Setting) (i : ℕ) (x : Setting) → i < length list → x ≡ get_or list i x → set_by (take (i + 1) list) ≡ with_setting x (set_by (take i list))
set_more list i x h is = rw (add-one, take-suc list i x) (set_last (take i list) (get_or list i x) ∙ ap (λ y. with_setting y (set_by (take i list))) (sym is))

-- ---- references, by place

-- what references by place lead to
abbrev pub set_at : ByPlace → Settings
set_at p = record { properties = p.properties.now; streams = numbers_read p.streams; tails = kinds_read p.tails }

read_if : {A : Type 0} (t : Bool) (a : Bor A) (o : Option (Bor A)) → option_copied (if t then Some a else o) ≡ (if t then Some a.now else option_copied o)
read_if true a o = refl
read_if false a o = refl

pub number_read : {A : Type 0} (number : ℕ) (a : Bor A) (old new : PerStream (Option (Bor A))) → new ≡ put_number number (Some a) old → numbers_read new ≡ put_number number (Some a.now) (numbers_read old)
number_read number a old new put = ap numbers_read put ∙ (λ i. numbered (λ k. read_if (number == k) a (at_number k old) i))

pub kind_read : {A : Type 0} (kind : KeptKind) (a : Bor A) (old new : PerKind (Option (Bor A))) → new ≡ put_kind kind (Some a) old → kinds_read new ≡ put_kind kind (Some a.now) (kinds_read old)
kind_read kind a old new put = ap kinds_read put ∙ (λ i. of_kinds (λ k. read_if (same_kept k kind) a (at_kind k old) i))
