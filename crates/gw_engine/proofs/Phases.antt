-- The outcome of a burst, one item after another, is that of its phases.
use Rattle.std.proofs.Common.{◌≡◌, ℕ, ◌+◌, ◌<◌, ◌≤◌, nat_lt, Bool, true, false, List, [], ◌∷◌, ◌++◌, length, Option, None, Some, Result, Ok, Err, refl, sym, ap, subst, ◌∙◌, append_assoc, append-nil, length-append, add-zero, arith}
use Rattle.std.specs.Prelude.{if◌then◌else◌}
use Rattle.std.specs.List.{flat_map}
use Rattle.std.proofs.lemmas.Option.{slice_get-map}
use Rattle.std.proofs.lemmas.Bool.Decides.{nat_tests}
use Rattle.gw_base.specs.declared.code.Code.{Code}
use Rattle.gw_reserve.specs.Ids.{Ids}
use Rattle.gw_kept.specs.Classes.{most_new}
use Rattle.gw_kept.specs.Changes.{Change, Keep, Remove, changes_of, entries_in, kept_after, AreNew}
use Rattle.gw_kept.specs.Forgotten.{forgotten}
use Rattle.gw_kept.specs.Pairs.{KeptList, bytes_for, with_pair, AreDistinct}
use Rattle.gw_kept.specs.Repeats.{class_after, classes_after, bytes_of}
use Rattle.gw_kept.specs.declared.class.Class.{Class}
use Rattle.gw_kept.specs.declared.class.Class.TheVariants.{New, Repeat, Over, Nothing}
use Rattle.gw_kept.specs.declared.class.Source.{Source}
use Rattle.gw_kept.specs.declared.class.Source.TheVariants as source
use Rattle.gw_kept.specs.declared.change.Turn.{Turn}
use Rattle.gw_kept.specs.declared.change.Turn.TheVariants as turn
use Rattle.gw_kept.specs.declared.entry.Entry.{Entry}
use Rattle.gw_kept.specs.declared.entry.RequestKey.{RequestKey}
use Rattle.gw_kept.specs.declared.point.Removal.{Removal}
use Rattle.gw_kept.proofs.Bursts.{from_start, then_acknowledged, then_new, then_other}
use Rattle.gw_kept.proofs.Changed.{one_more_after, entries_more, new_more}
use Rattle.gw_kept.proofs.Repeats.{has_reply, new_is_not_kept, over_is_not_kept, never_nothing, next_is_new, source_stays, next_bytes}
use Rattle.gw_msg.specs.declared.message.Item.{Item}
use Rattle.gw_msg.specs.declared.message.Item.TheVariants as item
use Rattle.gw_msg.specs.declared.message.Message.{Message}
use Rattle.gw_reply.specs.Messages.{reply_text, fault_text}
use Rattle.gw_reply.specs.declared.reply.TxReply.{TxReply}
use Rattle.gw_reserve.specs.Owners.{owners, owners_of, new_cursors}
use Rattle.gw_reserve.specs.declared.owners.Cursors.{Cursors}
use Rattle.gw_table.specs.Maps.{Outcome}
use Rattle.gw_engine.specs.declared.items.BurstItem.{BurstItem}
use Rattle.gw_engine.specs.declared.items.Content.{Content}
use Rattle.gw_engine.specs.declared.items.Content.TheVariants as content
use Rattle.gw_engine.specs.declared.items.Sent.{Sent}
use Rattle.gw_engine.specs.declared.datagram.Datagram.{Datagram}
use Rattle.gw_engine.specs.declared.reading.ReadDatagram.{ReadDatagram}
use Rattle.gw_engine.specs.Bursts.{Progress, Step, answer_to, unchanged, cursors_of, owned_by, reply_to, entry_for, cursors_after, key_of_request, over_reply, new_step, over_step, request_step, ack_step, item_step, in_turn, message_step, datagram_step, start_of, burst_outcome}
use Rattle.gw_tx.specs.Transactions.{transaction}
use Rattle.gw_engine.specs.Carried.{carried}
use Rattle.gw_engine.specs.Phases.{item_of, items_in, items_from, items_of, points_of, with_class, classified, table_of, new_in, turns_in, requests_of, paired_requests, entries_of, texts_of, reply_from, text_for, answer_for, answers_of, adopted, phased}
use Rattle.gw_engine.specs.State.{Settings, GatewayValue}
use Rattle.gw_engine.proofs.Cursors.{cursors-cons}

-- ---- one after another

abbrev and_then : Step → (Progress → Step) → Step
and_then a f = record { answers = a.answers ++ (f a.after).answers; after = (f a.after).after }

module _ {X Y : Type 0} (step : X → Progress → Step) (sub : Y → Progress → Step) (parts : X → List Y) where
  one_turn : (y : Y) (p : Progress) → in_turn sub (y ∷ []) p ≡ sub y p
  unfolding in_turn
  one_turn y p = λ i. record { answers = append-nil (sub y p).answers i; after = (sub y p).after }

  turns-append : (xs ys : List Y) (p : Progress) → in_turn sub (xs ++ ys) p ≡ and_then (in_turn sub xs p) (in_turn sub ys)
  unfolding in_turn
  turns-append [] ys p = refl
  turns-append (x ∷ xs) ys p =
      let now = sub x p in
      let behind = in_turn sub xs now.after in
      ap (λ (t : Step). record { answers = now.answers ++ t.answers; after = t.after }) (turns-append xs ys now.after)
      ∙ (λ i. record { answers = sym (append_assoc now.answers behind.answers (in_turn sub ys behind.after).answers) i; after = (in_turn sub ys behind.after).after })

  -- what goes in turn may be taken part by part
  turns_flat : ((x : X) (p : Progress) → step x p ≡ in_turn sub (parts x) p) → (xs : List X) (p : Progress) → in_turn step xs p ≡ in_turn sub (flat_map parts xs) p
  unfolding in_turn
  turns_flat each [] p = refl
  turns_flat each (x ∷ xs) p =
      let now = in_turn sub (parts x) p in
      ap (λ (t : Step). and_then t (in_turn step xs)) (each x p)
      ∙ ap (λ (t : Step). record { answers = now.answers ++ t.answers; after = t.after }) (turns_flat each xs now.after)
      ∙ sym (turns-append (parts x) (flat_map parts xs) p)

-- ---- the items of a burst, one after another

abbrev content_step : Settings → (peer : ℕ) → Content → Progress → Step
content_step s peer (content.Request x) p = request_step s peer x.mid x.request p (bytes_for (key_of_request x.mid x.request) p.state.kept.pairs)
content_step s peer (content.Ack r) p = ack_step r.mid r.ranges p
content_step s peer (content.Fault code) p = unchanged p (answer_to peer (fault_text s.mid code))

abbrev burst_step : Settings → BurstItem → Progress → Step
burst_step s a p = content_step s a.peer a.content p

module _ (s : Settings) where
  item_parts : (peer : ℕ) (mid : List ℕ) (i : Item) (p : Progress) → item_step s peer mid i p ≡ in_turn (burst_step s) (items_in peer mid i) p
  unfolding item_step in_turn
  item_parts peer mid (item.Request r) p = sym (one_turn (item_step s peer mid) (burst_step s) (items_in peer mid) (item_of peer (content.Request (record { mid = mid; request = r }))) p)
  item_parts peer mid (item.Ack ranges) p = sym (one_turn (item_step s peer mid) (burst_step s) (items_in peer mid) (item_of peer (content.Ack (record { mid = mid; ranges = ranges }))) p)
  item_parts peer mid item.Ignored p = refl

  message_parts : (peer : ℕ) (m : Result Message Code) (p : Progress) → message_step s peer m p ≡ in_turn (burst_step s) (items_from peer m) p
  message_parts peer (Ok m) p = turns_flat (item_step s peer m.mid) (burst_step s) (items_in peer m.mid) (item_parts peer m.mid) m.items p
  message_parts peer (Err code) p = sym (one_turn (message_step s peer) (burst_step s) (items_from peer) (item_of peer (content.Fault code)) p)

  datagram_parts : (messages : List ReadDatagram) (p : Progress) → in_turn (datagram_step s) messages p ≡ in_turn (burst_step s) (items_of messages) p
  datagram_parts messages p = turns_flat (datagram_step s) (burst_step s) (λ (h : ReadDatagram). items_from h.peer h.message) (λ h. message_parts h.peer h.message) messages p

-- ---- from a point of the burst on

-- these changes were made before it, and so many new requests came
record IsAt (k : KeptList) (cs : List Change) (p : Progress) : Type 0 where
  kept : p.state.kept ≡ kept_after k cs
  count : p.count ≡ length (entries_in cs)
  new : AreNew k cs

abbrev ids_from : Progress → List Sent → List Ids
ids_from p new = owners_of (requests_of new) p.numbers p.slots

abbrev done_from : Settings → Progress → List Sent → Outcome (List TxReply)
done_from s p new = carried s.rules (paired_requests new (ids_from p new)) p.state.maps

abbrev entries_from : Settings → Progress → List Sent → List Entry
entries_from s p new = entries_of s.mid new (done_from s p new).answer

-- the items give what the phases give of these new requests, this table and these turns
record Agrees (s : Settings) (k : KeptList) (cs : List Change) (items : List BurstItem) (p : Progress) (new : List Sent) (table : List BurstItem) (turns : List Turn) : Type 0 where
  answers : answers_of s.mid k (texts_of (entries_in cs ++ entries_from s p new)) table ≡ (in_turn (burst_step s) items p).answers
  state : adopted p.state (done_from s p new).maps (new_cursors (cursors_of p.state) (ids_from p new)) (changes_of turns (entries_from s p new)) ≡ (in_turn (burst_step s) items p).after.state
  distinct : AreNew p.state.kept (changes_of turns (entries_from s p new))

abbrev key_for : Sent → RequestKey
key_for x = key_of_request x.mid x.request

abbrev request_item : ℕ → Sent → BurstItem
request_item peer x = item_of peer (content.Request x)

-- the pair of a new request
abbrev entry_with : Settings → Progress → Sent → Entry
entry_with s p x = entry_for x.mid x.request (reply_to s x.request p)

abbrev count_in : List Change → ℕ
count_in cs = length (entries_in cs)

-- the items with their classes from that point on
abbrev table_from : KeptList → List Change → List BurstItem → List BurstItem
table_from k cs items = classified (count_in cs) items (classes_after k cs (points_of items))

-- the items give what the phases give of the table
abbrev AgreesOn : Settings → KeptList → List Change → List BurstItem → Progress → List BurstItem → Type 0
AgreesOn s k cs items p table = Agrees s k cs items p (new_in table) table (turns_in table)

less_test : (m n : ℕ) → m < n → nat_lt m n ≡ true
less_test m n h = grind (arith, nat_tests)

not_less_test : (m n : ℕ) → n ≤ m → nat_lt m n ≡ false
not_less_test m n h = grind (arith, nat_tests)

-- a source names the same among the texts of pairs
from_texts : (from : Source) (k : KeptList) (es : List Entry) → reply_from from k (texts_of es) ≡ bytes_of from k es
from_texts (source.Kept place) k es = refl
from_texts (source.Place place) k es = slice_get-map (λ (e : Entry). e.bytes) es place

module _ (s : Settings) (k : KeptList) (distinct : AreDistinct k.pairs) where
  -- one that changes nothing
  passes : (cs : List Change) (p : Progress) (a : BurstItem) (rest : List BurstItem) (c : Class) (n : ℕ) (bytes : List ℕ) (new : List Sent) (table : List BurstItem) (turns : List Turn) → burst_step s a p ≡ unchanged p (answer_to a.peer bytes) → text_for s.mid k (texts_of (entries_in cs ++ entries_from s p new)) (with_class a c n) ≡ Some bytes
      → Agrees s k cs rest p new table turns → Agrees s k cs (a ∷ rest) p new (with_class a c n ∷ table) turns
  unfolding in_turn
  passes cs p a rest c n bytes new table turns step text so = record {
    answers = ap (λ (o : Option (List ℕ)). answer_for a.peer o ++ answers_of s.mid k (texts_of (entries_in cs ++ entries_from s p new)) table) text
        ∙ ap (λ (l : List Datagram). answer_to a.peer bytes ++ l) so.answers
        ∙ ap (λ (t : Step). (and_then t (in_turn (burst_step s) rest)).answers) (sym step);
    state = so.state ∙ ap (λ (t : Step). (in_turn (burst_step s) rest t.after).after.state) (sym step);
    distinct = so.distinct;
  }

  -- ---- acknowledgements

  abbrev ack_item : ℕ → Removal → BurstItem
  ack_item peer r = item_of peer (content.Ack r)

  none_more : (cs : List Change) (r : Removal) → entries_in (cs ++ Remove r ∷ []) ≡ entries_in cs
  none_more cs r = entries_more cs (Remove r) ∙ append-nil (entries_in cs)

  -- behind an acknowledgement
  at_less : (cs : List Change) (p : Progress) (r : Removal) → IsAt k cs p → IsAt k (cs ++ Remove r ∷ []) (ack_step r.mid r.ranges p).after
  at_less cs p r at = record {
    kept = ap (λ (l : KeptList). forgotten l r.mid r.ranges) at.kept ∙ sym (one_more_after k cs (Remove r));
    count = at.count ∙ ap (λ (l : List Entry). length l) (sym (none_more cs r));
    new = new_more k cs (Remove r) at.new tt;
  }

  acknowledges : (cs : List Change) (p : Progress) (peer : ℕ) (r : Removal) (rest : List BurstItem) (new : List Sent) (table : List BurstItem) (turns : List Turn)
      → Agrees s k (cs ++ Remove r ∷ []) rest (ack_step r.mid r.ranges p).after new table turns → Agrees s k cs (ack_item peer r ∷ rest) p new (with_class (ack_item peer r) Nothing (count_in cs) ∷ table) (turn.Forget r ∷ turns)
  unfolding in_turn
  acknowledges cs p peer r rest new table turns so = record {
    answers = ap (λ (l : List Entry). answers_of s.mid k (texts_of (l ++ entries_from s p new)) table) (sym (none_more cs r)) ∙ so.answers;
    state = so.state;
    distinct = (tt, so.distinct);
  }

  -- ---- requests

  is_none : (cs : List Change) (p : Progress) (q : RequestKey) → IsAt k cs p → bytes_for q (kept_after k cs).pairs ≡ None → bytes_for q p.state.kept.pairs ≡ None
  is_none cs p q at none = ap (λ (l : KeptList). bytes_for q l.pairs) at.kept ∙ none

  without_reply : (peer : ℕ) (x : Sent) (p : Progress) (b : Bool) → bytes_for (key_for x) p.state.kept.pairs ≡ None → nat_lt p.count most_new ≡ b
      → burst_step s (request_item peer x) p ≡ (if b then new_step s peer x.mid x.request p else over_step s peer x.request p)
  without_reply peer x p b none few =
      ap (λ (o : Option (List ℕ)). request_step s peer x.mid x.request p o) none
      ∙ ap (λ (t : Bool). if t then new_step s peer x.mid x.request p else over_step s peer x.request p) few

  repeats : (cs : List Change) (p : Progress) (peer : ℕ) (x : Sent) (rest : List BurstItem) (from : Source) (n : ℕ) (new : List Sent) (table : List BurstItem) (turns : List Turn) → IsAt k cs p → class_after k cs (key_for x) ≡ Repeat from
      → Agrees s k cs rest p new table turns → Agrees s k cs (request_item peer x ∷ rest) p new (with_class (request_item peer x) (Repeat from) n ∷ table) turns
  repeats cs p peer x rest from n new table turns at is so =
      let has = has_reply k cs (key_for x) from distinct at.new is in
      let found : bytes_for (key_for x) p.state.kept.pairs ≡ Some has.0 = ap (λ (l : KeptList). bytes_for (key_for x) l.pairs) at.kept ∙ has.2 in
      passes cs p (request_item peer x) rest (Repeat from) n has.0 new table turns (ap (λ (o : Option (List ℕ)). request_step s peer x.mid x.request p o) found) (from_texts from k (entries_in cs ++ entries_from s p new) ∙ source_stays from k (entries_in cs) (entries_from s p new) has.0 has.1) so

  refused : (cs : List Change) (p : Progress) (peer : ℕ) (x : Sent) (rest : List BurstItem) (n : ℕ) (new : List Sent) (table : List BurstItem) (turns : List Turn) → IsAt k cs p → class_after k cs (key_for x) ≡ Over
      → Agrees s k cs rest p new table turns → Agrees s k cs (request_item peer x ∷ rest) p new (with_class (request_item peer x) Over n ∷ table) turns
  refused cs p peer x rest n new table turns at is so =
      let over = over_is_not_kept k cs (key_for x) distinct at.new is in
      let many : nat_lt p.count most_new ≡ false = not_less_test p.count most_new (subst (λ (n : ℕ). most_new ≤ n) (sym at.count) over.1) in
      passes cs p (request_item peer x) rest Over n (reply_text s.mid (over_reply x.request)) new table turns (without_reply peer x p false (is_none cs p (key_for x) at over.0) many) refl so

  one_more : (cs : List Change) (e : Entry) → entries_in (cs ++ Keep e ∷ []) ≡ entries_in cs ++ e ∷ []
  one_more cs e = entries_more cs (Keep e)

  count_more : (cs : List Change) (e : Entry) → count_in (cs ++ Keep e ∷ []) ≡ count_in cs + 1
  count_more cs e = ap (λ (l : List Entry). length l) (one_more cs e) ∙ length-append (entries_in cs) (e ∷ [])

  -- behind a new request
  at_next : (cs : List Change) (p : Progress) (peer : ℕ) (x : Sent) → IsAt k cs p → class_after k cs (key_for x) ≡ New → IsAt k (cs ++ Keep (entry_with s p x) ∷ []) (new_step s peer x.mid x.request p).after
  at_next cs p peer x at is = record {
    kept = ap (λ (l : KeptList). with_pair l (entry_with s p x)) at.kept ∙ sym (one_more_after k cs (Keep (entry_with s p x)));
    count = ap (λ (n : ℕ). n + 1) at.count ∙ sym (count_more cs (entry_with s p x));
    new = next_is_new k cs (entry_with s p x) distinct at.new is;
  }

  carries : (cs : List Change) (p : Progress) (peer : ℕ) (x : Sent) (rest : List BurstItem) (new : List Sent) (table : List BurstItem) (turns : List Turn) → IsAt k cs p → class_after k cs (key_for x) ≡ New
      → Agrees s k (cs ++ Keep (entry_with s p x) ∷ []) rest (new_step s peer x.mid x.request p).after new table turns → Agrees s k cs (request_item peer x ∷ rest) p (x ∷ new) (with_class (request_item peer x) New (count_in cs) ∷ table) (turn.Keep ∷ turns)
  unfolding in_turn carried cursors_after transaction
  carries cs p peer x rest new table turns at is so =
      let e = entry_with s p x in
      let es : List Entry = entries_in cs in
      let next : Progress = (new_step s peer x.mid x.request p).after in
      let more : List Entry = entries_from s next new in
      let free = new_is_not_kept k cs (key_for x) distinct at.new is in
      let none : bytes_for (key_for x) p.state.kept.pairs ≡ None = is_none cs p (key_for x) at free.0 in
      let few : nat_lt p.count most_new ≡ true = less_test p.count most_new (subst (λ (n : ℕ). n < most_new) (sym at.count) free.1) in
      let step : burst_step s (request_item peer x) p ≡ new_step s peer x.mid x.request p = without_reply peer x p true none few in
      record {
        answers = ap (λ (o : Option (List ℕ)). answer_for peer o ++ answers_of s.mid k (texts_of (es ++ e ∷ more)) table) (from_texts (source.Place (count_in cs)) k (es ++ e ∷ more) ∙ next_bytes es more e)
            ∙ ap (λ (l : List Entry). answer_to peer e.bytes ++ answers_of s.mid k (texts_of l) table) (sym (append_assoc es (e ∷ []) more) ∙ ap (λ (l : List Entry). l ++ more) (sym (one_more cs e)))
            ∙ ap (λ (l : List Datagram). answer_to peer e.bytes ++ l) so.answers
            ∙ ap (λ (t : Step). (and_then t (in_turn (burst_step s) rest)).answers) (sym step);
        state = ap (λ (c : Cursors). adopted p.state (done_from s p (x ∷ new)).maps c (Keep e ∷ changes_of turns more)) (cursors-cons (cursors_of p.state) (owned_by x.request p) (ids_from next new))
            ∙ so.state ∙ ap (λ (t : Step). (in_turn (burst_step s) rest t.after).after.state) (sym step);
        distinct = (none, so.distinct);
      }

  -- ---- the whole

  -- what is behind it agrees from each point on
  abbrev Later : List BurstItem → Type 0
  Later rest = (cs : List Change) (p : Progress) → IsAt k cs p → AgreesOn s k cs rest p (table_from k cs rest)

  -- no new request is before the others that was not before this one
  none_before : (cs : List Change) (p : Progress) (rest : List BurstItem) → AgreesOn s k cs rest p (table_from k cs rest) → AgreesOn s k cs rest p (classified (count_in cs + 0) rest (classes_after k cs (points_of rest)))
  none_before cs p rest h = subst (λ (n : ℕ). AgreesOn s k cs rest p (classified n rest (classes_after k cs (points_of rest)))) (sym (add-zero (count_in cs))) h

  module _ (peer : ℕ) (x : Sent) (rest : List BurstItem) (cs : List Change) (p : Progress) (at : IsAt k cs p) (later : Later rest) where
    agrees_with : List Class → Type 0
    agrees_with classes = AgreesOn s k cs (request_item peer x ∷ rest) p (classified (count_in cs) (request_item peer x ∷ rest) classes)

    other : (c : Class) → class_after k cs (key_for x) ≡ c → (c ≡ New → ⊥) → agrees_with (c ∷ classes_after k cs (points_of rest)) → agrees_with (classes_after k cs (points_of (request_item peer x ∷ rest)))
    unfolding agrees_with
    other c is not h =
        subst agrees_with (sym (then_other k cs (key_for x) (points_of rest) (λ e. not (sym is ∙ e)) ∙ ap (λ (d : Class). d ∷ classes_after k cs (points_of rest)) is)) h

    by_class : (c : Class) → class_after k cs (key_for x) ≡ c → agrees_with (classes_after k cs (points_of (request_item peer x ∷ rest)))
    unfolding agrees_with
    by_class New is =
        let e : Entry = entry_with s p x in
        let next : Progress = (new_step s peer x.mid x.request p).after in
        let later_cs : List Change = cs ++ Keep e ∷ [] in
        let classes : List Class = classes_after k later_cs (points_of rest) in
        let table : List BurstItem = classified (count_in cs + 1) rest classes in
        let so : AgreesOn s k later_cs rest next table = subst (λ (n : ℕ). AgreesOn s k later_cs rest next (classified n rest classes)) (count_more cs e) (later later_cs next (at_next cs p peer x at is)) in
        subst agrees_with (sym (then_new k cs e (points_of rest) is)) (carries cs p peer x rest (new_in table) table (turns_in table) at is so)
    by_class (Repeat from) is =
        let table : List BurstItem = classified (count_in cs + 0) rest (classes_after k cs (points_of rest)) in
        other (Repeat from) is (λ e. cc) (repeats cs p peer x rest from (count_in cs) (new_in table) table (turns_in table) at is (none_before cs p rest (later cs p at)))
    by_class Over is =
        let table : List BurstItem = classified (count_in cs + 0) rest (classes_after k cs (points_of rest)) in
        other Over is (λ e. cc) (refused cs p peer x rest (count_in cs) (new_in table) table (turns_in table) at is (none_before cs p rest (later cs p at)))
    by_class Nothing is = absurd (never_nothing k cs (key_for x) is)

  ack_agrees : (peer : ℕ) (r : Removal) (rest : List BurstItem) (cs : List Change) (p : Progress) → IsAt k cs p → Later rest → AgreesOn s k cs (ack_item peer r ∷ rest) p (table_from k cs (ack_item peer r ∷ rest))
  ack_agrees peer r rest cs p at later =
      let less : List Change = cs ++ Remove r ∷ [] in
      let next : Progress = (ack_step r.mid r.ranges p).after in
      let classes : List Class = classes_after k less (points_of rest) in
      let table : List BurstItem = classified (count_in cs + 0) rest classes in
      let count : count_in less ≡ count_in cs + 0 = ap (λ (l : List Entry). length l) (none_more cs r) ∙ sym (add-zero (count_in cs)) in
      let so : AgreesOn s k less rest next table = subst (λ (n : ℕ). AgreesOn s k less rest next (classified n rest classes)) count (later less next (at_less cs p r at)) in
      subst (λ (l : List Class). AgreesOn s k cs (ack_item peer r ∷ rest) p (classified (count_in cs) (ack_item peer r ∷ rest) l)) (sym (then_acknowledged k cs r (points_of rest)))
      (acknowledges cs p peer r rest (new_in table) table (turns_in table) so)

  one_agrees : (peer : ℕ) (what : Content) (rest : List BurstItem) (cs : List Change) (p : Progress) → IsAt k cs p → Later rest → AgreesOn s k cs (item_of peer what ∷ rest) p (table_from k cs (item_of peer what ∷ rest))
  unfolding agrees_with
  one_agrees peer (content.Request x) rest cs p at later = by_class peer x rest cs p at later (class_after k cs (key_for x)) refl
  one_agrees peer (content.Ack r) rest cs p at later = ack_agrees peer r rest cs p at later
  one_agrees peer (content.Fault code) rest cs p at later =
      let a : BurstItem = item_of peer (content.Fault code) in
      let table : List BurstItem = classified (count_in cs + 0) rest (classes_after k cs (points_of rest)) in
      passes cs p a rest Nothing (count_in cs) (fault_text s.mid code) (new_in table) table (turns_in table) refl refl (none_before cs p rest (later cs p at))

  -- what an item has before it is classified makes no difference
  same_item : (a : BurstItem) (rest : List BurstItem) (cs : List Change) (p : Progress) → AgreesOn s k cs (item_of a.peer a.content ∷ rest) p (table_from k cs (item_of a.peer a.content ∷ rest)) → AgreesOn s k cs (a ∷ rest) p (table_from k cs (a ∷ rest))
  unfolding in_turn
  same_item a rest cs p so = record { answers = so.answers; state = so.state; distinct = so.distinct }

  agrees : (items : List BurstItem) → Later items
  unfolding in_turn carried
  agrees [] cs p at = record { answers = refl; state = refl; distinct = tt }
  agrees (a ∷ rest) cs p at = same_item a rest cs p (one_agrees a.peer a.content rest cs p at (agrees rest))

-- ---- a burst

module _ (g : GatewayValue) (messages : List ReadDatagram) (distinct : AreDistinct g.state.kept.pairs) where
  burst_agrees : AgreesOn g.settings g.state.kept [] (items_of messages) (start_of g) (table_of g messages)
  burst_agrees =
      subst (λ (cs : List Class). AgreesOn g.settings g.state.kept [] (items_of messages) (start_of g) (classified 0 (items_of messages) cs)) (sym (from_start g.state.kept (points_of (items_of messages))))
      (agrees g.settings g.state.kept distinct (items_of messages) [] (start_of g) (record { kept = refl; count = refl; new = tt }))

  outcome_parts : burst_outcome g messages ≡ in_turn (burst_step g.settings) (items_of messages) (start_of g)
  unfolding burst_outcome
  outcome_parts = datagram_parts g.settings messages (start_of g)

  pub phased_answers : (phased g messages).answers ≡ (burst_outcome g messages).answers
  unfolding phased owners
  phased_answers = burst_agrees.answers ∙ ap (λ (t : Step). t.answers) (sym outcome_parts)

  pub phased_state : (phased g messages).state ≡ (burst_outcome g messages).after.state
  unfolding phased owners
  phased_state = burst_agrees.state ∙ ap (λ (t : Step). t.after.state) (sym outcome_parts)

  pub phased_new : AreNew g.state.kept (phased g messages).changes
  unfolding phased owners
  phased_new = burst_agrees.distinct
