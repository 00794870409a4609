-- New tables: their terminations have names, and keep nothing yet.
use Rattle.std.proofs.Common.{◌≡◌, ℕ, Bool, true, false, cond, List, [], ◌∷◌, Option, None, Some, bytes_eq, refl, sym, ap, subst, ◌∙◌}
use Rattle.std.specs.List.{All}
use Rattle.std.specs.Cmp.Lexicographic.{nat_list_cmp_total}
use Rattle.std.specs.Ordering.{nat_cmp}
use Rattle.std.specs.FinMap.{get-insert, get-empty}
use Rattle.std.proofs.lemmas.List.Elements.{All-nil, All-head, All-tail, All-same}
use Rattle.gw_base.specs.NameLists.{name_cmp}
use Rattle.gw_base.specs.Names.{IsName}
use Rattle.gw_base.specs.declared.command_words.Service.TheVariants.{InService}
use Rattle.gw_base.proofs.NameTests.{name_test, same_name}
use Rattle.gw_cmd.specs.KeptForms.{AreKept}
use Rattle.gw_ctx.specs.Contexts.{ContextRecord}
use Rattle.gw_term.specs.KeptRecords.{IsKeptRecord}
use Rattle.gw_term.specs.Record.{provisioned}
use Rattle.gw_term.specs.declared.record.Termination.{Termination}
use Rattle.gw_term.proofs.KeptMerges.{nothing_kept}
use Rattle.gw_reply.specs.KeptReplies.{HasNames}
use Rattle.gw_table.specs.Maps.{term, ctx, context_of, members_of, new_maps}

-- the first name's entry, or one of the others'
first_entry : (t : List ℕ) (ts : List (List ℕ)) (q : List ℕ) → term (new_maps (t ∷ ts)) q ≡ cond (bytes_eq q t) (Some provisioned) (term (new_maps ts) q)
first_entry t ts q = get-insert nat_list_cmp_total (new_maps ts).terms t provisioned q ∙ ap (λ b. cond b (Some provisioned) (term (new_maps ts) q)) (name_test q t)

entry_kept : (names : List (List ℕ)) (q : List ℕ) (r : Termination) → All IsName names → term (new_maps names) q ≡ Some r → IsKeptRecord r × IsName q
entry_kept [] q r all e = let clash : None ≡ Some r = sym (get-empty name_cmp q) ∙ e in absurd cc
entry_kept (t ∷ ts) q r all e = by (bytes_eq q t) refl (sym (first_entry t ts q) ∙ e) (λ f. entry_kept ts q r (All-tail IsName t ts all) f)
  where
    by : (b : Bool) → bytes_eq q t ≡ b → cond b (Some provisioned) (term (new_maps ts) q) ≡ Some r → (term (new_maps ts) q ≡ Some r → IsKeptRecord r × IsName q) → IsKeptRecord r × IsName q
    by true same f more = (let new : provisioned ≡ r = cc in subst IsKeptRecord new (nothing_kept None InService None), subst IsName (sym (same_name q t same)) (All-head IsName t ts all))
    by false same f more = more f

pub new_maps_kept : (names : List (List ℕ)) → All IsName names → AreKept (new_maps names)
new_maps_kept names all = record {
  records = λ t r e. (entry_kept names t r all e).0;
  names = λ t r e. (entry_kept names t r all e).1;
  members = λ n. All-same IsName (members_of (ctx (new_maps names) n)) [] (ap (λ (o : Option ContextRecord). members_of o) (get-empty nat_cmp n.0)) (All-nil IsName);
  links = λ n. All-same HasNames (context_of (ctx (new_maps names) n)).links [] (ap (λ (o : Option ContextRecord). (context_of o).links) (get-empty nat_cmp n.0)) (All-nil HasNames);
}
