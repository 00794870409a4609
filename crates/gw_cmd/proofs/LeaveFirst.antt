-- A termination that leaves its context before it is subtracted: what the Subtract does to its targets is the same.
use Rattle.std.proofs.Common.{◌≡◌, ℕ, Bool, true, false, cond, List, [], ◌∷◌, filter, Option, None, Some, bytes_eq, Result, Ok, refl, sym, ap, subst, ◌∙◌}
use Rattle.std.specs.Prelude.{◌≢◌, ◌||◌}
use Rattle.std.proofs.lemmas.List.Elements.{filter_passes}
use Rattle.gw_base.specs.declared.code.Code.{Code}
use Rattle.gw_base.specs.declared.command_words.Rules.{Rules}
use Rattle.gw_base.specs.declared.command_words.Verb.{Verb}
use Rattle.gw_base.specs.declared.command_words.Verb.TheVariants.{Subtract}
use Rattle.gw_base.specs.declared.ids.CtxNum.{CtxNum}
use Rattle.gw_base.specs.declared.key.Key.TheVariants.{Term}
use Rattle.gw_base.specs.declared.term_ref.TermRef.TheVariants.{Name}
use Rattle.gw_base.specs.NameLists.{is_in, without, NoDoubles}
use Rattle.gw_base.proofs.NamesInLists.{or_left, or_right, itself, dropped, gone}
use Rattle.gw_base.proofs.NameTests.{same_name, number_itself}
use Rattle.gw_ctx.specs.Contexts.{ContextRecord, left, is_apart_from}
use Rattle.gw_ctx.proofs.Lists.{filter_all}
use Rattle.gw_msg.specs.declared.message.Command.{Command}
use Rattle.gw_reply.specs.declared.parts.ReplyPart.{ReplyPart}
use Rattle.gw_reply.specs.declared.reply.CommandReply.{CommandReply}
use Rattle.gw_term.specs.Audit.{audit_parts}
use Rattle.gw_term.specs.declared.record.Termination.{Termination}
use Rattle.gw_table.specs.declared.attempts.Attempts.{Attempts}
use Rattle.gw_table.specs.Folds.{attempts_behind}
use Rattle.gw_table.specs.Maps.{Maps, Outcome, term, ctx, put_term, put_ctx, place_of, context_of, members_of}
use Rattle.gw_table.specs.Members.{without_member, unless_none, unless_empty}
use Rattle.gw_table.specs.Parts.{PartKeys, holds}
use Rattle.gw_table.specs.WellFormed.{IsSound}
use Rattle.gw_table.proofs.Folding.{in_order-more}
use Rattle.gw_table.proofs.Lookups.{term-put_term, ctx-put_term, ctx-put_ctx, put_ctx-put_ctx}
use Rattle.gw_refusal.specs.Requested.{audited}
use Rattle.gw_cmd.specs.declared.change.Change.TheVariants.{Leaves}
use Rattle.gw_cmd.specs.declared.change.Decided.{Decided}
use Rattle.gw_cmd.specs.Commands.{reply}
use Rattle.gw_cmd.specs.Effects.{refusal_elsewhere, unless, what_remains, is_full, decided_in, done, on_record, on_found}
use Rattle.gw_cmd.specs.declared.task.Act.TheVariants as act
use Rattle.gw_cmd.specs.declared.task.Task.TheVariants as does
use Rattle.gw_cmd.specs.Suits.{LeaveFirst}
use Rattle.gw_cmd.specs.Tasks.{target_in, targets_in}
use Rattle.gw_cmd.proofs.LeftAlone.{stands_here}
use Rattle.gw_cmd.proofs.Sound.{members-unless_empty, ctx-without_member, term-without_member, sound_left}
use Rattle.gw_cmd.proofs.Written.{without_last}

-- ---- names that leave a context, in either order

filter_turned : {X : Type 0} (p q : X → Bool) (l : List X) → filter p (filter q l) ≡ filter q (filter p l)
filter_turned p q [] = refl
filter_turned {X} p q (x ∷ xs) = by (p x) (q x) refl refl (filter_turned p q xs)
  where
    by : (a b : Bool) → p x ≡ a → q x ≡ b → filter p (filter q xs) ≡ filter q (filter p xs) → filter p (cond b (x ∷ filter q xs) (filter q xs)) ≡ filter q (cond a (x ∷ filter p xs) (filter p xs))
    by true true e f h = simp (e, f, h)
    by true false e f h = simp (f, h)
    by false true e f h = simp (e, h)
    by false false e f h = h

without_turned : (s t : List ℕ) (l : List (List ℕ)) → without s (without t l) ≡ without t (without s l)
without_turned s t [] = refl
without_turned s t (x ∷ xs) = by (bytes_eq s x) (bytes_eq t x) refl refl (without_turned s t xs)
  where
    by : (a b : Bool) → bytes_eq s x ≡ a → bytes_eq t x ≡ b → without s (without t xs) ≡ without t (without s xs) → without s (cond b xs (x ∷ without t xs)) ≡ without t (cond a xs (x ∷ without s xs))
    by true true e f h = ap (λ (y : List ℕ). without y xs) (same_name s x e ∙ sym (same_name t x f))
    by true false e f h = simp e
    by false true e f h = simp f
    by false false e f h = simp (e, f, h)

without_absent : (t : List ℕ) (l : List (List ℕ)) → is_in t l ≡ false → without t l ≡ l
without_absent t [] h = refl
without_absent t (x ∷ xs) h = by (bytes_eq t x) h (without_absent t xs)
  where
    by : (b : Bool) → (b || is_in t xs) ≡ false → (is_in t xs ≡ false → without t xs ≡ xs) → cond b xs (x ∷ without t xs) ≡ x ∷ xs
    by true h f = absurd cc
    by false h f = ap (λ (l : List (List ℕ)). x ∷ l) (f h)

left_turned : (s t : List ℕ) (c : ContextRecord) → left s (left t c) ≡ left t (left s c)
left_turned s t c = λ i. record { members = without_turned s t c.members i; priority = c.priority; emergency = c.emergency; links = filter_turned (is_apart_from s) (is_apart_from t) c.links i }

left_again : (t : List ℕ) (c : ContextRecord) → NoDoubles c.members → left t (left t c) ≡ left t c
left_again t c d =
    λ i. record {
      members = without_absent t (without t c.members) (gone t c.members d) i;
      priority = c.priority;
      emergency = c.emergency;
      links = filter_all (is_apart_from t) (filter (is_apart_from t) c.links) (filter_passes (is_apart_from t) c.links) i;
    }

-- a context that ended has no member that could leave
left_ended : (s : List ℕ) (c : ContextRecord) → unless_empty (left s (context_of (unless_empty c))) ≡ unless_empty (left s c)
left_ended s c = by c.members refl
  where
    by : (l : List (List ℕ)) → l ≡ c.members → unless_empty (left s (context_of (unless_none l c))) ≡ unless_empty (left s c)
    by [] e = ap (λ (l : List (List ℕ)). unless_none (without s l) (left s c)) e
    by (x ∷ xs) e = refl

module _ (n : CtxNum) where
  pub written_left : (t : List ℕ) (m : Maps) (o : Option ContextRecord) → without_member n t (put_ctx m n o) ≡ put_ctx m n (unless_empty (left t (context_of o)))
  written_left t m o =
      put_ctx-put_ctx m n o (unless_empty (left t (context_of (ctx (put_ctx m n o) n))))
      ∙ ap (λ (x : Option ContextRecord). put_ctx m n (unless_empty (left t (context_of x)))) (ctx-put_ctx m n o n ∙ ap (λ (b : Bool). cond b o (ctx m n)) (number_itself n n refl))

  both_left : (s t : List ℕ) (m : Maps) → without_member n s (without_member n t m) ≡ put_ctx m n (unless_empty (left s (left t (context_of (ctx m n)))))
  both_left s t m = written_left s m (unless_empty (left t (context_of (ctx m n)))) ∙ ap (λ (o : Option ContextRecord). put_ctx m n o) (left_ended s (left t (context_of (ctx m n))))

  turned : (s t : List ℕ) (m : Maps) → without_member n s (without_member n t m) ≡ without_member n t (without_member n s m)
  turned s t m = both_left s t m ∙ ap (λ (c : ContextRecord). put_ctx m n (unless_empty c)) (left_turned s t (context_of (ctx m n))) ∙ sym (both_left t s m)

  again : (t : List ℕ) (m : Maps) → NoDoubles (members_of (ctx m n)) → without_member n t (without_member n t m) ≡ without_member n t m
  again t m d = both_left t t m ∙ ap (λ (c : ContextRecord). put_ctx m n (unless_empty c)) (left_again t (context_of (ctx m n)) d)

-- ---- a Subtract

-- the name leaves the context too
abbrev too : {A : Type 0} → CtxNum → List ℕ → Outcome A → Outcome A
too n t o = record { maps = without_member n t o.maps; answer = o.answer }

module _ (rules : Rules) (n : CtxNum) (c : Command) (verb : c.verb ≡ Subtract) where
  abbrev on : List ℕ → Option Termination → Maps → Outcome (Result (List ReplyPart) Code)
  on t o m = on_found rules (Some n) c t o m

  -- unless it is refused
  abbrev of_record : Termination → Option Code → Result Decided Code
  of_record r refused = unless refused (record { change = Leaves n (what_remains r); parts = audit_parts (audited c.descriptors) r })

  record_is : (t : List ℕ) (r : Termination) (m : Maps) → on t (Some r) m ≡ done t m (of_record r (refusal_elsewhere (Some n) r.place))
  unfolding on_record
  record_is t r m = ap (λ (v : Verb). done t m (decided_in rules v c.descriptors (is_full rules n m) n r)) verb

  -- whoever else has left
  commutes : (t x : List ℕ) (o : Option Termination) (m : Maps) → on x o (without_member n t m) ≡ too n t (on x o m)
  commutes t x None m = refl
  commutes t x (Some r) m = record_is x r (without_member n t m) ∙ by (refusal_elsewhere (Some n) r.place) ∙ ap (λ o. too n t o) (sym (record_is x r m))
    where
      by : (k : Option Code) → done x (without_member n t m) (of_record r k) ≡ too n t (done x m (of_record r k))
      by (Some code) = refl
      by None =
          ap (λ (y : Maps). let z : Outcome (Result (List ReplyPart) Code) = record { maps = y; answer = Ok (audit_parts (audited c.descriptors) r) } in z)
          (ap (λ (y : Maps). without_member n x y) (sym (without_last n t x (what_remains r) m)) ∙ turned n x t (put_term m x (what_remains r)))

  -- and where it has left itself
  same_itself : (t : List ℕ) (r : Termination) (m : Maps) → r.place ≡ Some n → NoDoubles (members_of (ctx m n)) → on t (Some r) (without_member n t m) ≡ on t (Some r) m
  same_itself t r m there d =
      let now : Maps = put_term m t (what_remains r) in
      let is : on t (Some r) m ≡ done t m (of_record r None) = record_is t r m ∙ ap (λ (k : Option Code). done t m (of_record r k)) (stands_here (Some n) r.place there) in
      commutes t t (Some r) m ∙ ap (λ o. too n t o) is
      ∙ ap (λ (y : Maps). let z : Outcome (Result (List ReplyPart) Code) = record { maps = y; answer = Ok (audit_parts (audited c.descriptors) r) } in z)
      (again n t now (subst (λ (o : Option ContextRecord). NoDoubles (members_of o)) (sym (ctx-put_term m t (what_remains r) n)) d))
      ∙ sym is

  -- another one's record stays, and no name stands twice
  keeps : (t x : List ℕ) (o : Option Termination) (m : Maps) → bytes_eq t x ≡ false → NoDoubles (members_of (ctx m n)) → (term (on x o m).maps t ≡ term m t) × NoDoubles (members_of (ctx (on x o m).maps n))
  keeps t x None m apart d = (refl, d)
  keeps t x (Some r) m apart d = subst Kept (sym (record_is x r m)) (by (refusal_elsewhere (Some n) r.place))
    where
      Kept : Outcome (Result (List ReplyPart) Code) → Type 0
      Kept o = (term o.maps t ≡ term m t) × NoDoubles (members_of (ctx o.maps n))

      now : Maps
      now = put_term m x (what_remains r)

      by : (k : Option Code) → Kept (done x m (of_record r k))
      by (Some code) = (refl, d)
      by None = (
        term-without_member n x now t ∙ term-put_term m x (what_remains r) t ∙ ap (λ (b : Bool). cond b (what_remains r) (term m t)) apart,
        subst (λ (l : List (List ℕ)). NoDoubles l)
            (sym (ap (λ (o : Option ContextRecord). members_of o) (ctx-without_member n x now n ∙ ap (λ (b : Bool). cond b (unless_empty (left x (context_of (ctx now n)))) (ctx now n)) (number_itself n n refl))
            ∙ members-unless_empty (left x (context_of (ctx now n))) ∙ ap (λ (o : Option ContextRecord). without x (members_of o)) (ctx-put_term m x (what_remains r) n)))
            (dropped x (members_of (ctx m n)) d),
      )

  -- the first of the targets, and then the others
  abbrev then_all : List ℕ → List (List ℕ) → Outcome (Result (List ReplyPart) Code) → Outcome (Attempts Unit CommandReply)
  then_all x xs o = attempts_behind (reply c (Name x) o.answer ∷ []) (targets_in rules (Some n) c xs o.maps)

  more : (x : List ℕ) (xs : List (List ℕ)) (m : Maps) → targets_in rules (Some n) c (x ∷ xs) m ≡ then_all x xs (on x (term m x) m)
  more x xs m = in_order-more (target_in rules (Some n) c) tt x xs m

  pub leaves_first : (t : List ℕ) (ts : List (List ℕ)) (m : Maps) → is_in t ts ≡ true → place_of (term m t) ≡ Some n → NoDoubles (members_of (ctx m n))
      → targets_in rules (Some n) c ts (without_member n t m) ≡ targets_in rules (Some n) c ts m
  leaves_first t [] m i there d = absurd cc
  leaves_first t (x ∷ xs) m i there d =
      more x xs (without_member n t m) ∙ ap (λ (o : Option Termination). then_all x xs (on x o (without_member n t m))) (term-without_member n t m x)
      ∙ by (bytes_eq t x) refl (leaves_first t xs (on x (term m x) m).maps) ∙ sym (more x xs m)
    where
      itself : (o : Option Termination) → place_of o ≡ Some n → on x o (without_member n x m) ≡ on x o m
      itself None e = absurd cc
      itself (Some r) e = same_itself x r m e d

      by : (b : Bool) → bytes_eq t x ≡ b
          → (is_in t xs ≡ true → place_of (term (on x (term m x) m).maps t) ≡ Some n → NoDoubles (members_of (ctx (on x (term m x) m).maps n))
          → targets_in rules (Some n) c xs (without_member n t (on x (term m x) m).maps) ≡ targets_in rules (Some n) c xs (on x (term m x) m).maps)
          → then_all x xs (on x (term m x) (without_member n t m)) ≡ then_all x xs (on x (term m x) m)
      by true e rest =
          let same : t ≡ x = same_name t x e in
          ap (λ (y : List ℕ). then_all x xs (on x (term m x) (without_member n y m))) same
          ∙ ap (λ o. then_all x xs o) (itself (term m x) (ap (λ (y : List ℕ). place_of (term m y)) (sym same) ∙ there))
      by false e rest =
          let k = keeps t x (term m x) m e d in
          ap (λ o. then_all x xs o) (commutes t x (term m x) m)
          ∙ ap (λ (o : Outcome (Attempts Unit CommandReply)). attempts_behind (reply c (Name x) (on x (term m x) m).answer ∷ []) o)
          (rest (sym (ap (λ (b : Bool). b || is_in t xs) e) ∙ i) (ap (λ (o : Option Termination). place_of o) k.0 ∙ there) k.1)

-- ---- some of the targets leave first, one after another

pub one_leaves : (keys : PartKeys) (n : CtxNum) (named : List (List ℕ)) (old : Maps) (t : List ℕ) (m : Maps) → is_in t named ≡ true → place_of (term m t) ≡ Some n
    → LeaveFirst keys (does.Act (act.Subtract n)) named old m → LeaveFirst keys (does.Act (act.Subtract n)) named old (without_member n t m)
one_leaves keys n named old t m i there h = record {
  same = λ rules c d. leaves_first rules n c d.verb t named m i there (h.sound.once n) ∙ h.same rules c d;
  terms = λ q. term-without_member n t m q ∙ h.terms q;
  sound = sound_left keys n t m h.sound;
}

-- ---- all members leave, and the context ends with the last of them

module _ (keys : PartKeys) (n : CtxNum) (named : List (List ℕ)) (every : (t : List ℕ) → holds keys (Term t) ≡ true) (old : Maps) where
  abbrev Behind : Maps → Type 0
  Behind m = LeaveFirst keys (does.Act (act.Subtract n)) named old m

  others : (x : List ℕ) (xs : List (List ℕ)) (m : Maps) → members_of (ctx m n) ≡ x ∷ xs → (left x (context_of (ctx m n))).members ≡ xs
  others x xs m members = ap (without x) members ∙ ap (λ (b : Bool). cond b xs (x ∷ without x xs)) (itself x)

  first_left : (x : List ℕ) (xs : List (List ℕ)) (m : Maps) → members_of (ctx m n) ≡ x ∷ xs → ((t : List ℕ) → is_in t (x ∷ xs) ≡ true → is_in t named ≡ true) → Behind m → Behind (without_member n x m)
  first_left x xs m members inside h =
      let stands : is_in x (x ∷ xs) ≡ true = or_left (bytes_eq x x) (is_in x xs) (itself x) in
      one_leaves keys n named old x m (inside x stands) (h.sound.recorded x n (every x) (ap (is_in x) members ∙ stands)) h

  each_left : (x : List ℕ) (xs : List (List ℕ)) (m : Maps) → members_of (ctx m n) ≡ x ∷ xs → ((t : List ℕ) → is_in t (x ∷ xs) ≡ true → is_in t named ≡ true) → Behind m → Behind (put_ctx m n None)
  each_left x [] m members inside h =
      subst Behind (ap (λ (l : List (List ℕ)). put_ctx m n (unless_none l (left x (context_of (ctx m n))))) (others x [] m members)) (first_left x [] m members inside h)
  each_left x (y ∷ ys) m members inside h =
      let rest : ContextRecord = left x (context_of (ctx m n)) in
      subst Behind (put_ctx-put_ctx m n (unless_empty rest) None)
      (each_left y ys (without_member n x m)
      (ap (λ (o : Option ContextRecord). members_of o) (ctx-without_member n x m n ∙ ap (λ (b : Bool). cond b (unless_empty rest) (ctx m n)) (number_itself n n refl)) ∙ members-unless_empty rest ∙ others x (y ∷ ys) m members)
      (λ t i. inside t (or_right (bytes_eq t x) (is_in t (y ∷ ys)) i)) (first_left x (y ∷ ys) m members inside h))

pub all_left : (keys : PartKeys) (n : CtxNum) (named : List (List ℕ)) (m : Maps) → IsSound keys m → ((t : List ℕ) → holds keys (Term t) ≡ true) → members_of (ctx m n) ≡ named → named ≢ []
    → LeaveFirst keys (does.Act (act.Subtract n)) named m (put_ctx m n None)
all_left keys n [] m sound every members some = absurd (some refl)
all_left keys n (x ∷ xs) m sound every members some = each_left keys n (x ∷ xs) every m x xs m members (λ _ i. i) (record { same = λ _ _ _. refl; terms = λ _. refl; sound = sound })
