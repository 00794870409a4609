use Rattle.std.proofs.Common.{◌≡◌, ℕ, ◌≤◌, false, List, length, None, sym, ap, ◌∙◌, subst, arith}
use Rattle.std.specs.List.{All, list_any}
use Rattle.std.proofs.lemmas.List.Elements.{All-nil}
use Rattle.gw_base.specs.Names.{IsName}
use Rattle.gw_cmd.specs.KeptForms.{AreKept}
use Rattle.gw_kept.specs.Pairs.{KeptList, AreDistinct}
use Rattle.gw_table.specs.Maps.{Maps}
use Rattle.gw_table.specs.WellFormed.{AreWellFormed}
use Rattle.gw_table.proofs.Provisioning.{new_maps_fit}
use Rattle.gw_engine.specs.State.{IsKeptReply}
use Rattle.gw_engine.specs.Configuration.{first_limit}
use Rattle.gw_table.specs.Reserved.{is_reserved}
use Rattle.gw_engine.proofs.NewForms.{new_maps_kept}
use Rattle.gw_engine.proofs.Configured.{limits_kept}
use Rattle.gw_engine.proofs.gateway.Gateway.new.Goals as goal

pub invariant_of-result : goal.invariant_of-result
invariant_of-result c =
    let none : first_limit c.args.config ≡ None = sym c.in_default.ensures in
    let kept = limits_kept c.args.config none in
    let free : list_any is_reserved c.args.config.terms ≡ false = ap (λ (l : List (List ℕ)). list_any is_reserved l) (sym c.as_slice.ensures) ∙ sym c.if-has_reserved.ensures in
    let named : All IsName c.args.config.terms = subst (λ (l : List (List ℕ)). All IsName l) c.as_slice-2.ensures c.in_ok-check_names.ensures.forms in
    record {
      contexts = kept.contexts;
      slots = kept.slots;
      members = kept.members;
      keep = kept.keep;
      here = c.in_ok-tables.ensures.out;
      swept = c.in_ok-tables.ensures.swept;
      well_formed = record {
        mid = c.as_bytes.ensures.form;
        address = c.as_bytes-2.ensures.form;
        maps = subst (λ (m : Maps). AreWellFormed c.args.config.members m) (sym c.in_ok-tables.ensures.maps) (new_maps_fit c.args.config.members c.args.config.terms free);
        forms = subst AreKept (sym c.in_ok-tables.ensures.maps) (new_maps_kept c.args.config.terms named);
        context_cursor = omega arith;
        slot_cursor = omega arith;
        most = ap (λ (k : KeptList). k.most) c.in_ok-kept.ensures;
        kept = subst (λ (k : KeptList). length k.pairs ≤ c.args.config.keep) (sym c.in_ok-kept.ensures) (omega arith);
        distinct = subst (λ (k : KeptList). AreDistinct k.pairs) (sym c.in_ok-kept.ensures) tt;
        replies = subst (λ (k : KeptList). All (IsKeptReply c.args.config.mid) k.pairs) (sym c.in_ok-kept.ensures) (All-nil (IsKeptReply c.args.config.mid));
      };
    }
