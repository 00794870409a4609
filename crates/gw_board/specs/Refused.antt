-- What a board that is not made hands back (own).
use Rattle.std.specs.Prelude.{◌≡◌}
use Rattle.gw_table.specs.Stored.{Stored}
use Rattle.gw_board.specs.declared.fault.BoardFault.{BoardFault}
use Rattle.gw_board.specs.declared.fault.BoardFault.TheVariants.{NoMemory}

-- the tables, as they were
abbrev pub HandsBack : Stored → BoardFault → Type 0
HandsBack tables (NoMemory back) = back ≡ tables
