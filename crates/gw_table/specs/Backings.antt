-- What a draft works on, as a part (own).
use Rattle.gw_table.specs.declared.draft.Backing.{Backing}
use Rattle.gw_table.specs.declared.draft.Backing.TheVariants.{OfPart, OfTables}
use Rattle.gw_table.specs.Parts.{Parted}

abbrev pub backing_part : Backing → Parted
backing_part (OfPart p) = p
backing_part (OfTables p) = p
