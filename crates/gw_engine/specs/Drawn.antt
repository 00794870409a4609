-- What workers answered, each in its job's place (own).
use Rattle.std.specs.Prelude.{List, [], Option, Result, Ok, Err}
use Rattle.std.specs.Option.{option_to_list}

-- the answer that one gave, if it gave one
abbrev pub given : {X E : Type 0} → Result (Option X) E → List X
given (Ok o) = option_to_list o
given (Err e) = []
