-- Commands keep the forms of what is kept.
use Rattle.std.proofs.Common.{◌≡◌, ℕ, Bool, true, false, not, ◌||◌, ◌&&◌, is_some, cond, List, [], ◌∷◌, Option, None, Some, unwrap_or, bytes_eq, nat_eq, Result, Ok, Err, refl, sym, ap, ◌∙◌, subst}
use Rattle.std.specs.Prelude.{slice_index}
use Rattle.std.specs.FinMap.{contains_key-keys}
use Rattle.std.specs.Ordering.{eq_by_cmp}
use Rattle.std.specs.List.{All, find, filter, flat_map, list_any, list_all}
use Rattle.std.proofs.lemmas.List.Elements.{All-nil, All-cons, All-head, All-tail, All-append, All-push, All-filter, All-weaker}
use Rattle.std.proofs.lemmas.Bool.{and_parts}
use Rattle.std.proofs.lemmas.Slice.Eq.{bytes_eq-Decides}
use Rattle.gw_base.specs.Addresses.{IsAddress}
use Rattle.gw_base.specs.Bytes.{is_name_byte}
use Rattle.gw_base.specs.NameLists.{name_cmp, is_in, without}
use Rattle.gw_base.specs.Names.{IsName}
use Rattle.gw_base.specs.Wildcards.{IsTermText, is_term_byte, is_wildcard_byte}
use Rattle.gw_base.proofs.NameTests.{name_test}
use Rattle.gw_base.specs.declared.code.Code.{Code}
use Rattle.gw_base.specs.declared.ids.CtxNum.{CtxNum}
use Rattle.gw_base.specs.declared.command_words.Rules.{Rules}
use Rattle.gw_base.specs.declared.command_words.Service.{Service}
use Rattle.gw_base.specs.declared.command_words.Verb.{Verb}
use Rattle.gw_base.specs.declared.command_words.Verb.TheVariants.{Add, Modify, Move, Subtract, AuditValue, AuditCapability, Notify, ServiceChange}
use Rattle.gw_base.specs.declared.term_ref.TermRef.{TermRef}
use Rattle.gw_base.specs.declared.term_ref.TermRef.TheVariants.{Root, All as Every, Under, Choose, Name, Other}
use Rattle.gw_desc.specs.KeptTexts.{HasKeptTexts, IsOptional}
use Rattle.gw_desc.specs.Values.{item_of}
use Rattle.gw_desc.specs.declared.descriptor.Descriptor.{Descriptor}
use Rattle.gw_desc.specs.declared.values.AuditItem.{AuditItem}
use Rattle.gw_msg.specs.declared.message.Command.{Command}
use Rattle.gw_reply.specs.KeptParts.{IsKeptFilled, HasKeptReply, AllOk}
use Rattle.gw_reply.specs.KeptReplies.{HasForm, HasNames, IsKeptCommand}
use Rattle.gw_reply.specs.declared.parts.FilledStream.{FilledStream}
use Rattle.gw_reply.specs.declared.parts.ReplyPart.{ReplyPart}
use Rattle.gw_reply.specs.declared.parts.ReplyPart.TheVariants as part
use Rattle.gw_reply.specs.declared.reply.CommandReply.{CommandReply}
use Rattle.gw_term.specs.Audit.{audit_parts}
use Rattle.gw_term.specs.KeptRecords.{IsKeptRecord}
use Rattle.gw_term.specs.Merge.{merged, filled_by}
use Rattle.gw_term.specs.Record.{ephemeral, placed, serviced, reset}
use Rattle.gw_term.specs.declared.record.Termination.{Termination}
use Rattle.gw_term.proofs.KeptAudits.{audits_kept}
use Rattle.gw_term.proofs.KeptMerges.{merge_keeps, fills_keep, placed_kept, serviced_kept, nothing_kept}
use Rattle.gw_table.specs.Folds.{in_order}
use Rattle.gw_ctx.specs.Contexts.{ContextRecord, joined, left, is_apart_from}
use Rattle.gw_table.specs.Maps.{Maps, Outcome, term, ctx, names, put_term, put_ctx, context_of, members_of}
use Rattle.gw_table.specs.Reserved.{slot_name}
use Rattle.gw_table.proofs.Lookups.{term-put_term, ctx-put_term, term-put_ctx, ctx-put_ctx}
use Rattle.gw_table.proofs.SlotNames.{slot_is_named}
use Rattle.gw_refusal.specs.declared.at.At.{At}
use Rattle.gw_cmd.specs.declared.change.Change.{Change}
use Rattle.gw_cmd.specs.declared.change.Change.TheVariants.{Stays, Becomes, Joins, Crosses, Leaves}
use Rattle.gw_cmd.specs.declared.change.Decided.{Decided}
use Rattle.gw_cmd.specs.declared.outcome.CmdOutcome.{CmdOutcome}
use Rattle.gw_refusal.specs.Requested.{is_wildcard, matches, audited, requests_media, is_some_list, requested_service}
use Rattle.gw_table.specs.Members.{put_service}
use Rattle.gw_cmd.specs.Commands.{has_error, error_of, error_in, first_error, written, on_targets, on_names, new_reply, on_new, all_serviced, serviced_if, bare_if, bare_answer, root_parts, root_maps, on_root, refused, executed, unless_refused, command}
use Rattle.gw_cmd.specs.Effects.{Merged, filled_part, parts_of, merging_to, merging, refusal_to_add, refusal_to_move, refusal_elsewhere, joins, crosses, becomes, unless, what_remains, after_change, decided_in, decided_in_null, is_full, decided, done, on_record, on_found, on_name}
use Rattle.gw_cmd.specs.KeptForms.{AreKept, IsRequested, IsSlot, KeepsForms}
use Rattle.gw_table.specs.Members.{with_member, without_member, unless_none, unless_empty}
use Rattle.gw_cmd.specs.Changes.{changed}
use Rattle.gw_refusal.specs.Places.{place_at}
use Rattle.gw_cmd.specs.Refusals.{refusal}
use Rattle.gw_refusal.specs.Targets.{is_free, those_in, source, matched, targets_of, targets}

-- ---- names

name_is_term : (t : List ℕ) → IsName t → IsTermText t
name_is_term t h = record { some = h.some; short = h.short; first = ap (λ (b : Bool). b || is_wildcard_byte (slice_index t 0)) h.first; each = wider t h.each }
  where
    wider : (t : List ℕ) → list_all is_name_byte t ≡ true → list_all is_term_byte t ≡ true
    wider [] all = refl
    wider (b ∷ bs) all = let a = and_parts (is_name_byte b) (list_all is_name_byte bs) all in let here = a.0 in let rest = wider bs a.1 in rw (here, rest) refl

names_are_terms : (ts : List (List ℕ)) → All IsName ts → All IsTermText ts
names_are_terms ts h = All-weaker IsName IsTermText name_is_term ts h

or_true : (b : Bool) → b || true ≡ true
or_true true = refl
or_true false = refl

all_from : (P : List ℕ → Type 0) (ts : List (List ℕ)) → ((t : List ℕ) → is_in t ts ≡ true → P t) → All P ts
all_from P [] h = All-nil P
all_from P (t ∷ ts) h =
    All-cons P t ts (h t (let same = (bytes_eq-Decides t t).1 refl in rw same refl)) (all_from P ts (λ q is. h q (ap (λ (b : Bool). bytes_eq q t || b) is ∙ or_true (bytes_eq q t))))

same_in : (t : List ℕ) (ts : List (List ℕ)) → list_any (λ q. eq_by_cmp name_cmp t q) ts ≡ is_in t ts
same_in t [] = refl
same_in t (q ∷ qs) = rw (name_test t q, same_in t qs) refl

-- one of the names has an entry
there : (m : Maps) (t : List ℕ) → is_in t (names m) ≡ true → is_some (term m t) ≡ true
there m t h = contains_key-keys m.terms t ∙ same_in t (names m) ∙ h

some_entry : (m : Maps) (t : List ℕ) (o : Option Termination) → term m t ≡ o → is_some o ≡ true → AreKept m → IsName t
some_entry m t None e h k = absurd cc
some_entry m t (Some r) e h k = k.names t r e

names_kept : (m : Maps) → AreKept m → All IsName (names m)
names_kept m k = all_from IsName (names m) (λ t h. some_entry m t (term m t) refl (there m t h) k)

-- ---- entries in maps

put_kept_by : (t q : List ℕ) (o : Option Termination) (m : Maps) (r : Termination) (b : Bool) → IsOptional IsKeptRecord o → AreKept m → cond b o (term m q) ≡ Some r → IsKeptRecord r
put_kept_by t q None m r true h k e = absurd cc
put_kept_by t q (Some s) m r true h k e = let same : s ≡ r = cc in subst IsKeptRecord same h
put_kept_by t q o m r false h k e = k.records q r e

put_named_by : (t q : List ℕ) (o : Option Termination) (m : Maps) (r : Termination) (b : Bool) → bytes_eq q t ≡ b → IsName t → AreKept m → cond b o (term m q) ≡ Some r → IsName q
put_named_by t q o m r true is named k e = subst IsName (sym ((bytes_eq-Decides q t).0 is)) named
put_named_by t q o m r false is named k e = k.names q r e

put_term_kept : (t : List ℕ) (o : Option Termination) (m : Maps) → IsName t → IsOptional IsKeptRecord o → AreKept m → AreKept (put_term m t o)
put_term_kept t o m named h k = record {
  records = λ q r e. put_kept_by t q o m r (bytes_eq q t) h k (sym (term-put_term m t o q) ∙ e);
  names = λ q r e. put_named_by t q o m r (bytes_eq q t) refl named k (sym (term-put_term m t o q) ∙ e);
  members = λ n. subst (λ (x : Option ContextRecord). All IsName (members_of x)) (sym (ctx-put_term m t o n)) (k.members n);
  links = λ n. subst (λ (x : Option ContextRecord). All HasNames (context_of x).links) (sym (ctx-put_term m t o n)) (k.links n);
}

members_by : (o : Option ContextRecord) (m : Maps) (q : CtxNum) (b : Bool) → All IsName (members_of o) → AreKept m → All IsName (members_of (cond b o (ctx m q)))
members_by o m q true h k = h
members_by o m q false h k = k.members q

links_by : (o : Option ContextRecord) (m : Maps) (q : CtxNum) (b : Bool) → All HasNames (context_of o).links → AreKept m → All HasNames (context_of (cond b o (ctx m q))).links
links_by o m q true h k = h
links_by o m q false h k = k.links q

pub put_ctx_kept : (n : CtxNum) (o : Option ContextRecord) (m : Maps) → All IsName (members_of o) → All HasNames (context_of o).links → AreKept m → AreKept (put_ctx m n o)
put_ctx_kept n o m h l k = record {
  records = λ q r e. k.records q r (sym (term-put_ctx m n o q) ∙ e);
  names = λ q r e. k.names q r (sym (term-put_ctx m n o q) ∙ e);
  members = λ q. subst (λ (x : Option ContextRecord). All IsName (members_of x)) (sym (ctx-put_ctx m n o q)) (members_by o m q (nat_eq q.0 n.0) h k);
  links = λ q. subst (λ (x : Option ContextRecord). All HasNames (context_of x).links) (sym (ctx-put_ctx m n o q)) (links_by o m q (nat_eq q.0 n.0) l k);
}

with_kept : (n : CtxNum) (t : List ℕ) (m : Maps) → IsName t → AreKept m → AreKept (with_member n t m)
with_kept n t m named k = put_ctx_kept n (Some (joined t (context_of (ctx m n)))) m (All-push IsName (members_of (ctx m n)) t (k.members n) named) (k.links n) k

others : (t : List ℕ) (ts : List (List ℕ)) → All IsName ts → All IsName (without t ts)
others t [] h = All-nil IsName
others t (q ∷ qs) h = by (bytes_eq t q) (others t qs (All-tail IsName q qs h))
  where
    by : (b : Bool) → All IsName (without t qs) → All IsName (cond b qs (q ∷ without t qs))
    by true rest = All-tail IsName q qs h
    by false rest = All-cons IsName q (without t qs) (All-head IsName q qs h) rest

unless_kept_by : (ts : List (List ℕ)) (c : ContextRecord) → All IsName c.members → All IsName (members_of (unless_none ts c))
unless_kept_by [] c h = All-nil IsName
unless_kept_by (t ∷ ts) c h = h

unless_links_by : (ts : List (List ℕ)) (c : ContextRecord) → All HasNames c.links → All HasNames (context_of (unless_none ts c)).links
unless_links_by [] c h = All-nil HasNames
unless_links_by (t ∷ ts) c h = h

without_kept : (n : CtxNum) (t : List ℕ) (m : Maps) → AreKept m → AreKept (without_member n t m)
without_kept n t m k =
    let rest : ContextRecord = left t (context_of (ctx m n)) in
    put_ctx_kept n (unless_empty rest) m (unless_kept_by rest.members rest (others t (members_of (ctx m n)) (k.members n)))
    (unless_links_by rest.members rest (All-filter (is_apart_from t) HasNames (context_of (ctx m n)).links (k.links n))) k

-- a change whose record has its forms
abbrev IsKeptChange : Change → Type 0
IsKeptChange Stays = Unit {0}
IsKeptChange (Becomes r) = IsKeptRecord r
IsKeptChange (Joins n r) = IsKeptRecord r
IsKeptChange (Crosses p n r) = IsKeptRecord r
IsKeptChange (Leaves n o) = IsOptional IsKeptRecord o

changed_kept : (t : List ℕ) (change : Change) (m : Maps) → IsName t → IsKeptChange change → AreKept m → AreKept (changed t change m)
changed_kept t Stays m named h k = k
changed_kept t (Becomes r) m named h k = put_term_kept t (Some r) m named h k
changed_kept t (Joins n r) m named h k = with_kept n t (put_term m t (Some r)) named (put_term_kept t (Some r) m named h k)
changed_kept t (Crosses p n r) m named h k = with_kept n t (without_member p t (put_term m t (Some r))) named (without_kept p t (put_term m t (Some r)) (put_term_kept t (Some r) m named h k))
changed_kept t (Leaves n o) m named h k = without_kept n t (put_term m t o) (put_term_kept t o m named h k)

-- ---- merges

abbrev IsKeptMerge : Result Merged Code → Type 0
IsKeptMerge (Ok m) = IsKeptRecord m.record_after × All HasKeptReply m.parts
IsKeptMerge (Err code) = Unit {0}

filled_part_kept : (ds : List Descriptor) (filled : List FilledStream) → All IsKeptFilled filled → All HasKeptReply (filled_part ds filled)
filled_part_kept ds filled h = by (requests_media ds || not (is_some_list filled))
  where
    by : (b : Bool) → All HasKeptReply (cond b [] (part.Filled filled ∷ []))
    by true = All-nil HasKeptReply
    by false = All-cons HasKeptReply (part.Filled filled) [] h (All-nil HasKeptReply)

parts_kept : (ds : List Descriptor) (filled : List FilledStream) (r : Termination) → All IsKeptFilled filled → IsKeptRecord r → All HasKeptReply (parts_of ds filled r)
parts_kept ds filled r h k = All-append HasKeptReply (filled_part ds filled) (audit_parts (audited ds) r) (filled_part_kept ds filled h) (audits_kept (audited ds) r k)

module _ (rules : Rules) (address : IsAddress rules.media) where
  merging_to_kept : (ds : List Descriptor) (r : Termination) (place : Option CtxNum) (code : Option Code) (o : Option Termination) → merged rules ds r ≡ o → All HasKeptTexts ds → IsKeptRecord r → IsKeptMerge (merging_to rules ds r place code o)
  merging_to_kept ds r place code None e good k = tt
  merging_to_kept ds r place (Some code) (Some new) e good k = tt
  merging_to_kept ds r place None (Some new) e good k =
      let kept = placed_kept new place (merge_keeps rules ds r new address good k e) in
      (kept, parts_kept ds (filled_by rules ds r) (placed new place) (fills_keep rules ds r address good k) kept)

  merging_kept : (ds : List Descriptor) (r : Termination) (place : Option CtxNum) (code : Option Code) → All HasKeptTexts ds → IsKeptRecord r → IsKeptMerge (merging rules ds r place code)
  unfolding merging
  merging_kept ds r place code good k = merging_to_kept ds r place code (merged rules ds r) refl good k

-- ---- decisions

abbrev IsKeptDecision : Result Decided Code → Type 0
IsKeptDecision (Ok d) = IsKeptChange d.change × All HasKeptReply d.parts
IsKeptDecision (Err code) = Unit {0}

joins_kept : (n : CtxNum) (x : Result Merged Code) → IsKeptMerge x → IsKeptDecision (joins n x)
joins_kept n (Err code) h = tt
joins_kept n (Ok m) h = h

crosses_kept : (p : Option CtxNum) (n : CtxNum) (x : Result Merged Code) → IsKeptMerge x → IsKeptDecision (crosses p n x)
crosses_kept p n (Err code) h = tt
crosses_kept None n (Ok m) h = tt
crosses_kept (Some p) n (Ok m) h = h

becomes_kept : (x : Result Merged Code) → IsKeptMerge x → IsKeptDecision (becomes x)
becomes_kept (Err code) h = tt
becomes_kept (Ok m) h = h

unless_kept : (code : Option Code) (d : Decided) → IsKeptChange d.change × All HasKeptReply d.parts → IsKeptDecision (unless code d)
unless_kept (Some code) d h = tt
unless_kept None d h = h

remains_kept : (r : Termination) → IsOptional IsKeptRecord (what_remains r)
remains_kept r = by (is_some r.slot)
  where
    by : (b : Bool) → IsOptional IsKeptRecord (cond b None (Some (reset r)))
    by true = tt
    by false = nothing_kept None r.service r.slot

module _ (rules : Rules) (address : IsAddress rules.media) where
  in_kept : (v : Verb) (ds : List Descriptor) (full : Bool) (n : CtxNum) (r : Termination) → All HasKeptTexts ds → IsKeptRecord r → IsKeptDecision (decided_in rules v ds full n r)
  in_kept Add ds full n r good k = joins_kept n (merging rules ds r (Some n) (refusal_to_add full r.place)) (merging_kept rules address ds r (Some n) (refusal_to_add full r.place) good k)
  in_kept Move ds full n r good k = crosses_kept r.place n (merging rules ds r (Some n) (refusal_to_move full n r.place)) (merging_kept rules address ds r (Some n) (refusal_to_move full n r.place) good k)
  in_kept Subtract ds full n r good k = unless_kept (refusal_elsewhere (Some n) r.place) (record { change = Leaves n (what_remains r); parts = audit_parts (audited ds) r }) (remains_kept r, audits_kept (audited ds) r k)
  in_kept Modify ds full n r good k = becomes_kept (merging rules ds r (Some n) (refusal_elsewhere (Some n) r.place)) (merging_kept rules address ds r (Some n) (refusal_elsewhere (Some n) r.place) good k)
  in_kept AuditValue ds full n r good k = unless_kept (refusal_elsewhere (Some n) r.place) (record { change = Stays; parts = audit_parts (audited ds) r }) (tt, audits_kept (audited ds) r k)
  in_kept ServiceChange ds full n r good k = unless_kept (refusal_elsewhere (Some n) r.place) (record { change = Becomes (after_change ds r); parts = [] }) (serviced_kept r (unwrap_or (requested_service ds) r.service) k, All-nil HasKeptReply)
  in_kept AuditCapability ds full n r good k = tt
  in_kept Notify ds full n r good k = tt

  null_kept : (v : Verb) (ds : List Descriptor) (r : Termination) → All HasKeptTexts ds → IsKeptRecord r → IsKeptDecision (decided_in_null rules v ds r)
  null_kept Modify ds r good k = becomes_kept (merging rules ds r None (refusal_elsewhere None r.place)) (merging_kept rules address ds r None (refusal_elsewhere None r.place) good k)
  null_kept AuditValue ds r good k = unless_kept (refusal_elsewhere None r.place) (record { change = Stays; parts = audit_parts (audited ds) r }) (tt, audits_kept (audited ds) r k)
  null_kept ServiceChange ds r good k = unless_kept (refusal_elsewhere None r.place) (record { change = Becomes (after_change ds r); parts = [] }) (serviced_kept r (unwrap_or (requested_service ds) r.service) k, All-nil HasKeptReply)
  null_kept Add ds r good k = tt
  null_kept Move ds r good k = tt
  null_kept Subtract ds r good k = tt
  null_kept AuditCapability ds r good k = tt
  null_kept Notify ds r good k = tt

  decided_kept : (place : Option CtxNum) (c : Command) (m : Maps) (r : Termination) → All HasKeptTexts c.descriptors → IsKeptRecord r → IsKeptDecision (decided rules place c m r)
  decided_kept None c m r good k = null_kept c.verb c.descriptors r good k
  decided_kept (Some n) c m r good k = in_kept c.verb c.descriptors (is_full rules n m) n r good k

  -- ---- on one termination

  done_kept : (t : List ℕ) (m : Maps) (x : Result Decided Code) → IsName t → IsKeptDecision x → AreKept m → AreKept (done t m x).maps × AllOk HasKeptReply (done t m x).answer
  done_kept t m (Err code) named h k = (k, tt)
  done_kept t m (Ok d) named h k = (changed_kept t d.change m named h.0 k, h.1)

  record_kept : (place : Option CtxNum) (c : Command) (t : List ℕ) (r : Termination) (m : Maps) → IsName t → All HasKeptTexts c.descriptors → IsKeptRecord r → AreKept m → AreKept (on_record rules place c t r m).maps × AllOk HasKeptReply (on_record rules place c t r m).answer
  unfolding on_record
  record_kept place c t r m named good h k = done_kept t m (decided rules place c m r) named (decided_kept place c m r good h) k

  found_kept : (place : Option CtxNum) (c : Command) (t : List ℕ) (o : Option Termination) (m : Maps) → term m t ≡ o → All HasKeptTexts c.descriptors → AreKept m → AreKept (on_found rules place c t o m).maps × AllOk HasKeptReply (on_found rules place c t o m).answer
  found_kept place c t None m e good k = (k, tt)
  found_kept place c t (Some r) m e good k = record_kept place c t r m (k.names t r e) good (k.records t r e) k

  name_kept : (place : Option CtxNum) (c : Command) (t : List ℕ) (m : Maps) → All HasKeptTexts c.descriptors → AreKept m → AreKept (on_name rules place c t m).maps × AllOk HasKeptReply (on_name rules place c t m).answer
  name_kept place c t m good k = found_kept place c t (term m t) m refl good k

  -- ---- on several

  targets_kept : (at : At) (c : Command) (ts : List (List ℕ)) (m : Maps) → All IsTermText ts → All HasKeptTexts c.descriptors → AreKept m → AreKept (on_targets rules at c ts m).maps × All IsKeptCommand (on_targets rules at c ts m).answer.answers
  unfolding in_order
  targets_kept at c [] m texts good k = (k, All-nil IsKeptCommand)
  targets_kept at c (t ∷ ts) m texts good k =
      let one = name_kept (place_at at) c t m good k in
      let o = on_name rules (place_at at) c t m in
      let rest = targets_kept at c ts o.maps (All-tail IsTermText t ts texts) good one.0 in
      (rest.0, All-cons IsKeptCommand (record { verb = c.verb; term = Name t; result = o.answer }) (on_targets rules at c ts o.maps).answer.answers (All-head IsTermText t ts texts, one.1) rest.1)

error_kept : (x : Result (List ReplyPart) Code) → AllOk HasKeptReply (error_of x)
error_kept (Ok parts) = All-nil HasKeptReply
error_kept (Err code) = tt

error_in_kept : (o : Option CommandReply) → AllOk HasKeptReply (error_in o)
error_in_kept None = All-nil HasKeptReply
error_in_kept (Some r) = error_kept r.result

one_kept : (c : Command) (sent : TermRef) (x : Result (List ReplyPart) Code) → HasForm sent → AllOk HasKeptReply x → All IsKeptCommand ((record { verb = c.verb; term = sent; result = x }) ∷ [])
one_kept c sent x form h = All-cons IsKeptCommand (record { verb = c.verb; term = sent; result = x }) [] (form, h) (All-nil IsKeptCommand)

written_kept : (c : Command) (replies : List CommandReply) → HasForm c.term → All IsKeptCommand replies → All IsKeptCommand (written c replies)
written_kept c replies form h = by (c.wild && is_wildcard c.term)
  where
    by : (b : Bool) → All IsKeptCommand (cond b ((record { verb = c.verb; term = c.term; result = first_error replies }) ∷ []) replies)
    by true = one_kept c c.term (first_error replies) form (error_in_kept (find has_error replies))
    by false = h

-- ---- ROOT

service_kept : (s : Service) (t : List ℕ) (m : Maps) (o : Option Termination) → term m t ≡ o → AreKept m → AreKept (put_service s t m o)
service_kept s t m None e k = k
service_kept s t m (Some r) e k = put_term_kept t (Some (serviced r s)) m (k.names t r e) (serviced_kept r s (k.records t r e)) k

all_serviced_kept : (s : Service) (ts : List (List ℕ)) (m : Maps) → AreKept m → AreKept (all_serviced s ts m)
all_serviced_kept s [] m k = k
all_serviced_kept s (t ∷ ts) m k = all_serviced_kept s ts (put_service s t m (term m t)) (service_kept s t m (term m t) refl k)

serviced_if_kept : (o : Option Service) (m : Maps) → AreKept m → AreKept (serviced_if o m)
serviced_if_kept None m k = k
serviced_if_kept (Some s) m k = all_serviced_kept s (names m) m k

root_kept : (v : Verb) (ds : List Descriptor) (m : Maps) → AreKept m → AreKept (root_maps v ds m)
root_kept ServiceChange ds m k = serviced_if_kept (requested_service ds) m k
root_kept Add ds m k = k
root_kept Modify ds m k = k
root_kept Move ds m k = k
root_kept Subtract ds m k = k
root_kept AuditValue ds m k = k
root_kept AuditCapability ds m k = k
root_kept Notify ds m k = k

bare_kept : (o : Option AuditItem) → All HasKeptReply (bare_if o)
bare_kept None = All-nil HasKeptReply
bare_kept (Some i) = All-cons HasKeptReply (part.Bare i) [] tt (All-nil HasKeptReply)

bares_kept : (words : List (List ℕ)) → All HasKeptReply (flat_map bare_answer words)
bares_kept [] = All-nil HasKeptReply
bares_kept (w ∷ ws) = All-append HasKeptReply (bare_answer w) (flat_map bare_answer ws) (bare_kept (item_of w)) (bares_kept ws)

-- ---- the targets

filtered : (test : List ℕ → Bool) (ts : List (List ℕ)) → All IsName ts → All IsName (filter test ts)
filtered test ts h = All-filter test IsName ts h

those_kept : (place : Option CtxNum) (m : Maps) → AreKept m → All IsName (those_in place m)
those_kept None m k = filtered (is_free m) (names m) (names_kept m k)
those_kept (Some n) m k = k.members n

matched_kept : (at : At) (c : Command) (m : Maps) → AreKept m → All IsTermText (matched at c m)
unfolding matched
matched_kept at c m k = names_are_terms (filter (matches c.term) (those_in (source at c) m)) (filtered (matches c.term) (those_in (source at c) m) (those_kept (source at c) m k))

all_texts : (at : At) (c : Command) (m : Maps) (r : TermRef) → HasForm r → AreKept m → All IsTermText (targets_of r at c m)
all_texts at c m (Name t) h k = All-cons IsTermText t [] h (All-nil IsTermText)
all_texts at c m Every h k = matched_kept at c m k
all_texts at c m (Under prefix) h k = matched_kept at c m k
all_texts at c m Root h k = All-nil IsTermText
all_texts at c m Choose h k = All-nil IsTermText
all_texts at c m (Other text) h k = All-nil IsTermText

-- ---- the command

new_kept : (c : Command) (slot : ℕ) (x : Result (List ReplyPart) Code) → IsName (slot_name slot) → AllOk HasKeptReply x → IsKeptCommand (new_reply c slot x)
new_kept c slot (Ok parts) named h = (name_is_term (slot_name slot) named, h)
new_kept c slot (Err code) named h = (tt, tt)

refused_kept : (at : At) (c : Command) (code : Code) (m : Maps) → HasForm c.term → AreKept m → KeepsForms (refused at c code m)
refused_kept at c code m form k = record { maps = k; replies = one_kept c c.term (Err code) form tt }

module _ (rules : Rules) (address : IsAddress rules.media) where
  on_new_kept : (at : At) (c : Command) (slot : Option ℕ) (m : Maps) → IsSlot slot → IsRequested c → AreKept m → KeepsForms (on_new rules at c slot m)
  on_new_kept at c None m small good k = refused_kept at c _ m good.term k
  on_new_kept at c (Some slot) m small good k =
      let o = on_record rules (place_at at) c (slot_name slot) (ephemeral slot) m in
      let named : IsName (slot_name slot) = slot_is_named slot small in
      let h = record_kept rules address (place_at at) c (slot_name slot) (ephemeral slot) m named good.descriptors (nothing_kept None _ (Some slot)) k in
      record { maps = h.0; replies = All-cons IsKeptCommand (new_reply c slot o.answer) [] (new_kept c slot o.answer named h.1) (All-nil IsKeptCommand) }

  on_names_kept : (at : At) (c : Command) (m : Maps) → IsRequested c → AreKept m → KeepsForms (on_names rules at c m)
  on_names_kept at c m good k =
      let h = targets_kept rules address at c (targets at c m) m (all_texts at c m c.term good.term k) good.descriptors k in
      record { maps = h.0; replies = written_kept c (on_targets rules at c (targets at c m) m).answer.answers good.term h.1 }

  on_root_kept : (at : At) (c : Command) (m : Maps) → AreKept m → KeepsForms (on_root at c m)
  on_root_kept at c m k = record { maps = root_kept c.verb c.descriptors m k; replies = one_kept c Root (Ok (root_parts c)) tt (bares_kept (audited c.descriptors)) }

  executed_kept : (at : At) (slot : Option ℕ) (c : Command) (m : Maps) (r : TermRef) → IsSlot slot → IsRequested c → AreKept m → KeepsForms (executed rules at slot c m r)
  executed_kept at slot c m Root small good k = on_root_kept at c m k
  executed_kept at slot c m Choose small good k = on_new_kept at c slot m small good k
  executed_kept at slot c m (Name t) small good k = on_names_kept at c m good k
  executed_kept at slot c m Every small good k = on_names_kept at c m good k
  executed_kept at slot c m (Under prefix) small good k = on_names_kept at c m good k
  executed_kept at slot c m (Other text) small good k = on_names_kept at c m good k

  unless_refused_kept : (o : Option Code) (at : At) (c : Command) (m : Maps) (x : Outcome CmdOutcome) → HasForm c.term → AreKept m → KeepsForms x → KeepsForms (unless_refused o at c m x)
  unless_refused_kept (Some code) at c m x form k h = refused_kept at c code m form k
  unless_refused_kept None at c m x form k h = h

  pub command_kept : (at : At) (slot : Option ℕ) (c : Command) (m : Maps) → IsSlot slot → IsRequested c → AreKept m → KeepsForms (command rules at slot c m)
  unfolding command
  command_kept at slot c m small good k = unless_refused_kept (refusal at slot c m) at c m (executed rules at slot c m c.term) good.term k (executed_kept at slot c m c.term small good k)
