-- Keys that cannot be left out: what a command answers or leaves where one is missing.
use Rattle.std.proofs.Common.{nat_eq, ◌≡◌, ℕ, Bool, true, false, cond, List, [], ◌∷◌, Option, None, Some, is_none, is_some, Result, Ok, Err, is_err, refl, sym, ap, ◌∙◌}
use Rattle.std.specs.Prelude.{◌||◌}
use Rattle.gw_base.specs.declared.code.Code.{Code}
use Rattle.gw_base.specs.declared.code.Code.TheVariants.{UnknownContext, UnknownTermination}
use Rattle.gw_base.specs.declared.ids.CtxNum.{CtxNum}
use Rattle.gw_base.specs.declared.command_words.Rules.{Rules}
use Rattle.gw_base.specs.declared.command_words.Verb.TheVariants.{Add, Move}
use Rattle.gw_base.specs.declared.key.Key.{Key}
use Rattle.gw_base.specs.declared.key.Key.TheVariants.{Term, Ctx}
use Rattle.gw_base.specs.declared.term_ref.TermRef.TheVariants.{Name}
use Rattle.gw_base.specs.Keys.{has}
use Rattle.gw_base.specs.NameLists.{is_in}
use Rattle.gw_base.proofs.Booleans.{refuted}
use Rattle.gw_base.proofs.NameTests.{number_itself}
use Rattle.gw_base.proofs.NamesInLists.{itself}
use Rattle.gw_desc.specs.declared.descriptor.Descriptor.{Descriptor}
use Rattle.gw_ctx.specs.Contexts.{ContextRecord}
use Rattle.gw_msg.specs.declared.message.Command.{Command}
use Rattle.gw_reply.specs.declared.reply.CommandReply.{CommandReply}
use Rattle.gw_term.specs.declared.record.Termination.{Termination}
use Rattle.gw_table.specs.Maps.{Maps, Outcome, term, ctx, put_term, place_of, members_of}
use Rattle.gw_table.specs.declared.attempts.Attempts.{Attempts}
use Rattle.gw_table.specs.Parts.{restricted, overlaid}
use Rattle.gw_table.specs.WellFormed.{AreWellFormed}
use Rattle.gw_table.proofs.Lookups.{term-put_term}
use Rattle.gw_table.proofs.PartLookups.{term-restricted, ctx-restricted, ctx-overlaid}
use Rattle.gw_refusal.specs.declared.at.At.TheVariants.{Live}
use Rattle.gw_cmd.specs.declared.change.Change.TheVariants.{Crosses}
use Rattle.gw_cmd.specs.declared.change.Decided.{Decided}
use Rattle.gw_cmd.specs.Commands as commands
use Rattle.gw_cmd.specs.Effects.{done, decided, on_record, on_found}
use Rattle.gw_table.specs.Members.{without_member}
use Rattle.gw_cmd.specs.Changes.{changed}
use Rattle.gw_cmd.specs.Needs.{named, named_with}
use Rattle.gw_refusal.specs.Forms.{refusal_by_form}
use Rattle.gw_cmd.specs.Refusals.{refusal, refusal_by_tables}
use Rattle.gw_cmd.proofs.Kept.{kept_command}
use Rattle.gw_cmd.proofs.KeptWhole.{whole_is_kept}
use Rattle.gw_cmd.proofs.Lawful.{moved_is}
use Rattle.gw_cmd.proofs.OneByOne.{one_target}
use Rattle.gw_cmd.proofs.Sound.{term-with_member, term-without_member}

-- ---- an Add, without the key of its context or of its termination

module _ (rules : Rules) (n : CtxNum) (t : List ℕ) (ds : List Descriptor) (m : Maps) (keys : List Key) (slot : Option ℕ) (o : Bool) where
  no_context : has keys (Ctx n) ≡ false → ctx (restricted keys m) n ≡ None
  no_context h = ctx-restricted keys m n ∙ ap (λ b. cond b (ctx m n) None) h

  pub needs_context : (w : Bool) → has keys (Ctx n) ≡ false → (commands.command rules (Live n) slot (named_with o w Add t ds) (restricted keys m)).answer ≡ commands.outcome_of (Live n) (commands.reply (named_with o w Add t ds) (Name t) (Err UnknownContext) ∷ [])
  unfolding commands.command refusal_by_form refusal_by_tables
  needs_context true h = rw (no_context h) refl
  needs_context false h = rw (no_context h) refl

  live : (x : Option ContextRecord) → is_some x ≡ true → is_none x ≡ false
  live None e = absurd cc
  live (Some x) e = refl

  there : has keys (Ctx n) ≡ true → is_some (ctx m n) ≡ true → is_none (ctx (restricted keys m) n) ≡ false
  there k i = live (ctx (restricted keys m) n) (ap (λ (x : Option ContextRecord). is_some x) (ctx-restricted keys m n ∙ ap (λ b. cond b (ctx m n) None) k) ∙ i)

  no_termination : has keys (Term t) ≡ false → term (restricted keys m) t ≡ None
  no_termination h = term-restricted keys m t ∙ ap (λ b. cond b (term m t) None) h

  pub needs_termination : (w : Bool) → has keys (Ctx n) ≡ true → is_some (ctx m n) ≡ true → has keys (Term t) ≡ false → (commands.command rules (Live n) slot (named_with o w Add t ds) (restricted keys m)).answer ≡ commands.outcome_of (Live n) (commands.reply (named_with o w Add t ds) (Name t) (Err UnknownTermination) ∷ [])
  unfolding commands.command refusal_by_form refusal_by_tables
  needs_termination true k i h = rw (there k i) (rw (no_termination h) refl)
  needs_termination false k i h = rw (there k i) (rw (no_termination h) refl)

-- ---- a Move, without the key of the context that its termination is in

module _ (rules : Rules) (n : CtxNum) (t : List ℕ) (ds : List Descriptor) (m : Maps) where
  requested : Command
  requested = named Move t ds

  -- one that is not refused leaves the termination in the action's context
  done_place : (r : Termination) (x : Result Decided Code) → ((d : Decided) → x ≡ Ok d → (p : CtxNum) × (new : Termination) × (d.change ≡ Crosses p n new) × (new.place ≡ Some n)) → (is_err (done t m x).answer || false) ≡ false → place_of (term (done t m x).maps t) ≡ Some n
  done_place r (Err code) h e = absurd cc
  done_place r (Ok d) h e =
      let is = h d refl in
      let p = is.0 in
      let new = is.1 in
      let put : Maps = put_term m t (Some new) in
      ap (λ x. place_of (term (changed t x m) t)) is.2
      ∙ ap (λ o. place_of o) (term-with_member n t (without_member p t put) t ∙ term-without_member p t put t ∙ term-put_term m t (Some new) t ∙ ap (λ (b : Bool). cond b (Some new) (term m t)) (itself t))
      ∙ is.3

  found_place : (o : Option Termination) → (is_err (on_found rules (Some n) (named Move t ds) t o m).answer || false) ≡ false → place_of (term (on_found rules (Some n) (named Move t ds) t o m).maps t) ≡ Some n
  unfolding on_record
  found_place None e = absurd cc
  found_place (Some r) e = done_place r (decided rules (Some n) (named Move t ds) m r) (λ d i. moved_is rules ds n r m d i) e

  pub moved_place : (commands.command rules (Live n) None (named Move t ds) m).answer.failed ≡ false → place_of (term (commands.command rules (Live n) None (named Move t ds) m).maps t) ≡ Some n
  unfolding commands.command
  moved_place h = by (refusal (Live n) None (named Move t ds) m) h
    where
      by : (x : Option Code) → (commands.unless_refused x (Live n) (named Move t ds) m (commands.on_names rules (Live n) (named Move t ds) m)).answer.failed ≡ false
          → place_of (term (commands.unless_refused x (Live n) (named Move t ds) m (commands.on_names rules (Live n) (named Move t ds) m)).maps t) ≡ Some n
      by (Some code) e = absurd cc
      by None e =
          let one : commands.on_targets rules (Live n) (named Move t ds) (t ∷ []) m ≡ commands.on_target rules (Live n) (named Move t ds) tt t m = one_target rules (Live n) (named Move t ds) t m in
          let failed = λ (o : Outcome (Attempts Unit CommandReply)). (commands.outcome_of (Live n) o.answer.answers).failed in
          ap (λ (o : Outcome (Attempts Unit CommandReply)). place_of (term o.maps t)) one
          ∙ found_place (term m t) (ap failed (sym one) ∙ e)

  pub needs_moved : (p : CtxNum) (keys : List Key) → AreWellFormed rules.members m → place_of (term m t) ≡ Some p → nat_eq p.0 n.0 ≡ false → (commands.command rules (Live n) None (named Move t ds) m).answer.failed ≡ false → has keys (Ctx p) ≡ false
      → (is_in t (members_of (ctx (overlaid keys (commands.command rules (Live n) None (named Move t ds) (restricted keys m)).maps m) p)) ≡ true)
      × (is_in t (members_of (ctx (commands.command rules (Live n) None (named Move t ds) m).maps p)) ≡ false)
  needs_moved p keys w there apart fine out =
      let new : Maps = (commands.command rules (Live n) None (named Move t ds) m).maps in
      let part : Maps = (commands.command rules (Live n) None (named Move t ds) (restricted keys m)).maps in
      let whole : AreWellFormed rules.members new = kept_command rules (λ _. true) (λ _. Unit {0}) (whole_is_kept rules (λ _. Unit {0})) (Live n) None (named Move t ds) m (λ _. refl) tt tt w in (
        ap (λ (o : Option ContextRecord). is_in t (members_of o)) (ctx-overlaid keys part m p ∙ ap (λ (b : Bool). cond b (ctx part p) (ctx m p)) out) ∙ w.listed t p there,
        refuted (is_in t (members_of (ctx new p))) (λ i.
            let same : Some p ≡ Some n = sym (whole.recorded t p i) ∙ moved_place fine in
            let j : p ≡ n = cc in
            let clash : true ≡ false = sym (number_itself p n j) ∙ apart in
            cc),
      )
