use Rattle.std.proofs.Common.{◌≡◌, nat_eq, drop}
use Rattle.std.specs.Prelude.{◌&&◌}
use Rattle.std.specs.List.{list_any, starts_with}
use Rattle.gw_table.specs.Maps.{is_free}
use Rattle.gw_table.proofs.Picked.{name_in, picked, has_name}
use Rattle.gw_table.proofs.part.Part.has_free_under.Given as goal

-- whether there is one is told by those that are left
abbrev pub invariant-loop-key : goal.invariant-loop-key
invariant-loop-key l =
    list_any (λ t. is_free l.self.maps t && starts_with nat_eq t l.prefix) (picked name_in (has_name l.self.maps) (drop l.key-index l.key-items))
    ≡ list_any (λ t. is_free l.self.maps t && starts_with nat_eq t l.prefix) (picked name_in (has_name l.self.maps) l.key-items)
