-- Items one after another, up to the first that stops (RFC 3525, sections 8.1 and 8.2): commands in an action, actions
-- in a transaction; and, where none stops, targets of a command.
use Rattle.std.specs.Prelude.{Bool, true, false, if◌then◌else◌, List, [], ◌∷◌, ◌++◌}
use Rattle.gw_table.specs.declared.attempts.Attempts.{Attempts}
use Rattle.gw_table.specs.Maps.{Maps, Outcome}

-- nothing was attempted
abbrev pub none_from : {S A : Type 0} → S → Bool → Maps → Outcome (Attempts S A)
none_from s stopped m = record { maps = m; answer = record { next = s; answers = []; stopped = stopped } }

-- later attempts, behind these answers
abbrev pub attempts_behind : {S A : Type 0} → List A → Outcome (Attempts S A) → Outcome (Attempts S A)
attempts_behind front o = record { maps = o.maps; answer = record { next = o.answer.next; answers = front ++ o.answer.answers; stopped = o.answer.stopped } }

-- each item goes on from where the one before it ended, up to the first that stops
unfoldable pub in_order : {X S A : Type 0} → (S → X → Maps → Outcome (Attempts S A)) → S → List X → Maps → Outcome (Attempts S A)
in_order step s [] m = none_from s false m
in_order step s (x ∷ xs) m =
    let now = step s x m in
    attempts_behind now.answer.answers (if now.answer.stopped then none_from now.answer.next true now.maps else in_order step now.answer.next xs now.maps)
