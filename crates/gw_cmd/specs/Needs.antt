-- Commands that prove that keys cannot be left out (own).
use Rattle.std.specs.Prelude.{ℕ, Bool, false, List}
use Rattle.gw_base.specs.declared.command_words.Verb.{Verb}
use Rattle.gw_base.specs.declared.term_ref.TermRef.TheVariants.{Name}
use Rattle.gw_desc.specs.declared.descriptor.Descriptor.{Descriptor}
use Rattle.gw_msg.specs.declared.message.Command.{Command}

-- a command on the termination of a name, with O- and W- or without
abbrev pub named_with : (optional wild : Bool) → Verb → List ℕ → List Descriptor → Command
named_with optional wild verb t descriptors = record { verb = verb; term = Name t; optional = optional; wild = wild; descriptors = descriptors }

-- without both
abbrev pub named : Verb → List ℕ → List Descriptor → Command
named = named_with false false
