-- A tail and a property whose texts stand one behind the other (own).
use Rattle.std.specs.Prelude.{ℕ, Bool, if◌then◌else◌, List, [], take, drop, Option, Some, None}
use Rattle.gw_desc.specs.declared.descriptor.Property.{Property}
use Rattle.gw_desc.specs.declared.descriptor.Sign.{Sign}
use Rattle.gw_desc.specs.declared.descriptor.Tail.{Tail}
use Rattle.gw_term.specs.declared.text.Form.{Form}
use Rattle.gw_term.specs.declared.text.Form.TheVariants as form
use Rattle.std.specs.Arc.{arc_slice_items}

abbrev pub text_of : Option (List ℕ) → List ℕ
text_of None = []
text_of (Some text) = text

-- a text that is kept, wherever it lies
abbrev pub text_in : Form → Option (List ℕ)
text_in form.Missing = None
text_in (form.Here short) = Some short
text_in (form.Own block) = Some block.items
text_in (form.Shared block) = Some (arc_slice_items block)

-- its word is as long as `split` says, and its group is the rest, each if it is there
abbrev pub split_tail : (equals has_word has_group : Bool) (split : ℕ) (texts : List ℕ) → Tail (List ℕ)
split_tail equals has_word has_group split texts = record {
  equals = equals;
  word = if has_word then Some (take split texts) else None;
  group = if has_group then Some (drop split texts) else None;
}

-- its name is as long as `split` says, and its value is the rest
abbrev pub split_property : Sign → ℕ → List ℕ → Property (List ℕ)
split_property sign split texts = record { name = take split texts; sign = sign; value = drop split texts }
