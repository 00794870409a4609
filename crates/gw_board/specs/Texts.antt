-- What a place is closed with (own): the text of a reply, as it is sent.
use Rattle.std.specs.Prelude.{ℕ, List}

abbrev pub Text : Type 0
Text = List ℕ
