-- The gateway's tables as text, for an operator (own).
use Rattle.std.specs.Prelude.{ℕ, List, ◌++◌, length, codes, decimal}
use Rattle.gw_table.specs.TableTexts.{tables_text}
use Rattle.gw_engine.specs.State.{GatewayValue}

-- cursors <the last context number owned> <the slot behind the last owned>
abbrev pub cursors_line : ℕ → ℕ → List ℕ
cursors_line context slot = codes "cursors " ++ decimal context ++ codes " " ++ decimal slot ++ codes "\n"

-- kept <how many replies>
abbrev pub kept_line : ℕ → List ℕ
kept_line count = codes "kept " ++ decimal count ++ codes "\n"

-- the cursors; the tables; how many replies are kept
abbrev pub audit_text : GatewayValue → List ℕ
audit_text g =
    cursors_line g.state.context_cursor g.state.slot_cursor
    ++ tables_text g.state.maps
    ++ kept_line (length g.state.kept.pairs)
