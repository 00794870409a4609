-- What a text is read as, and when it is refused (own).
use Rattle.std.specs.Prelude.{◌≡◌, ◌≢◌, ℕ, ◌<◌, ◌≤◌, List, [], length, Result, Ok, Err}
use Rattle.gw_base.specs.declared.fault.NameFault.{NameFault}
use Rattle.gw_base.specs.declared.fault.NameFault.TheVariants.{Empty, TooLong, BadByte}

-- A text of the form, of at most limit bytes, is read as its bytes. Any other is refused with the first fault that it
-- has.
abbrev pub ReadsAs : (List ℕ → Type 0) → ℕ → List ℕ → Result (List ℕ) NameFault → Type 0
ReadsAs IsForm limit text (Ok bytes) = (bytes ≡ text) × IsForm text
ReadsAs IsForm limit text (Err Empty) = text ≡ []
ReadsAs IsForm limit text (Err TooLong) = limit < length text
ReadsAs IsForm limit text (Err BadByte) = (text ≢ []) × (length text ≤ limit) × ¬ IsForm text
