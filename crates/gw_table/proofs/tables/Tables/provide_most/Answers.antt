use Rattle.std.proofs.Common.{◌≡◌, ℕ, true, List, sym, subst}
use Rattle.gw_base.specs.NameLists.{is_in}
use Rattle.gw_table.specs.Maps.{Maps}
use Rattle.gw_table.specs.Provided.{AreAmong}
use Rattle.gw_table.specs.Stored.{Stored, maps_of, AreSwept, NoneIsOut}
use Rattle.gw_table.proofs.Provisioning.{among_put}
use Rattle.gw_table.proofs.Provisioning.{in_at}
use Rattle.gw_table.proofs.tables.Tables.provide_most.Goals.{then-i-lt3+in_ok-provide, else-i-lt3}
use Rattle.gw_table.proofs.tables.Tables.provide_most.Goals as goal

pub loop-i-preserved : goal.loop-i-preserved
loop-i-preserved c =
    let names : List (List ℕ) = c.args.names.now in
    let t : List ℕ = c.index-names-i.result in
    let inside : is_in t names ≡ true = in_at names c.loop-i.i t c.loop-i-test.true c.index-names-i.is in
    elim c.if-i-lt3.branch [
      | then-i-lt3+in_ok-provide w ↦ record {
        among = subst (λ (s : Stored). AreAmong names (maps_of s)) (sym w.self-is) (subst (λ (m : Maps). AreAmong names m) (sym w.in_ok-provide.ensures.maps) (among_put names t (maps_of c.loop-i.self) inside c.loop-i.invariant.among));
        out = subst (λ (s : Stored). NoneIsOut s) (sym w.self-is) (w.in_ok-provide.ensures.out c.loop-i.invariant.out);
        swept = subst (λ (s : Stored). AreSwept s) (sym w.self-is) (w.in_ok-provide.ensures.swept c.loop-i.invariant.swept);
      }
      | else-i-lt3 w ↦ record {
        among = subst (λ (s : Stored). AreAmong names (maps_of s)) (sym w.self-is) c.loop-i.invariant.among;
        out = subst (λ (s : Stored). NoneIsOut s) (sym w.self-is) c.loop-i.invariant.out;
        swept = subst (λ (s : Stored). AreSwept s) (sym w.self-is) c.loop-i.invariant.swept;
      }
    ]
