-- Each request of a burst is answered with a message with its reply, and each text that is no message with its error.
use Rattle.std.proofs.Common.{◌≡◌, ℕ, ◌<◌, ◌≤◌, nat_lt, not, Bool, true, false, cond, List, [], ◌∷◌, ◌++◌, Option, None, Some, Result, Ok, Err, refl, sym, subst, arith}
use Rattle.std.specs.List.{All, AllZip, flat_map}
use Rattle.std.proofs.lemmas.List.Elements.{All-nil, All-cons, All-head, All-tail, All-take, All-drop, All-filter}
use Rattle.gw_base.specs.Addresses.{IsAddress}
use Rattle.gw_base.specs.Mids.{IsMid}
use Rattle.gw_base.specs.declared.code.Code.{Code}
use Rattle.gw_cmd.specs.KeptForms.{AreKept, IsSlot}
use Rattle.gw_kept.specs.Classes.{most_new}
use Rattle.gw_kept.specs.Forgotten.{is_named}
use Rattle.gw_kept.specs.Pairs.{bytes_for, key_of}
use Rattle.gw_kept.specs.declared.entry.Entry.{Entry}
use Rattle.gw_msg.specs.declared.message.Item.{Item}
use Rattle.gw_msg.specs.declared.message.Item.TheVariants as item
use Rattle.gw_msg.specs.declared.message.Message.{Message}
use Rattle.gw_msg.specs.declared.message.Request.{Request}
use Rattle.gw_reply_law.specs.Spellings.{IsReplyMessage}
use Rattle.gw_reply_law.proofs.PartFits.{reply_is}
use Rattle.gw_reserve.specs.Owners.{slot_choices}
use Rattle.gw_table.specs.Unused.{owned}
use Rattle.gw_reserve.proofs.Fresh.{free_unused}
use Rattle.gw_reserve.proofs.Choices.{owned_choices}
use Rattle.gw_tx.specs.KeptForms.{AreSlots, IsReadRequest}
use Rattle.gw_tx.proofs.FormsKept.{transaction_kept}
use Rattle.gw_engine.specs.declared.reading.ReadDatagram.{ReadDatagram}
use Rattle.gw_engine.specs.Bursts.{Progress, Step, owned_by, reply_to, entry_for, key_of_request, over_reply, new_step, over_step, request_step, item_step, in_turn, message_step, datagram_step, start_of, burst_outcome}
use Rattle.gw_engine.specs.Forms.{IsItemInForm, IsMessageInForm, IsInForm, AreInForm}
use Rattle.gw_engine.specs.Readable.{Question, question_in, questions_in, questions, IsAnswerTo}
use Rattle.gw_engine.specs.State.{Settings, GatewayValue, IsKeptReply, IsWellFormed}
use Rattle.gw_engine.proofs.ErrorsRead.{fault_is_error}
use Rattle.gw_engine.proofs.RepliesKept.{reply_read, kept_more, kept_found}

abbrev pub IsSmall : ℕ → Type 0
IsSmall n = n < 4096

-- between two items: what is kept has its forms, and so have the names of the slots that are left
pub record IsSound (s : Settings) (p : Progress) : Type 0 where
  pub maps : AreKept p.state.maps
  pub replies : All (IsKeptReply s.mid) p.state.kept.pairs
  pub slots : All IsSmall p.slots

-- a step answers these questions, and leaves the burst so
pub record IsAnswered (s : Settings) (qs : List Question) (t : Step) : Type 0 where
  pub answers : AllZip (IsAnswerTo s.mid) qs t.answers
  pub after : IsSound s t.after

zip_append : {A B : Type 0} (R : A → B → Type 0) (xs ys : List A) (us vs : List B) → AllZip R xs us → AllZip R ys vs → AllZip R (xs ++ ys) (us ++ vs)
zip_append R [] ys [] vs h k = k
zip_append R [] ys (u ∷ us) vs h k = absurd h
zip_append R (x ∷ xs) ys [] vs h k = absurd h
zip_append R (x ∷ xs) ys (u ∷ us) vs h k = (h.0, zip_append R xs ys us vs h.1 k)

-- the names of small slots are names
named_slots : (slots : List (Option ℕ)) → All (λ (s : ℕ). s < 4096) (owned slots) → All IsSlot slots
named_slots [] all = All-nil IsSlot
named_slots (None ∷ os) all = All-cons IsSlot None os tt (named_slots os all)
named_slots (Some s ∷ os) all =
    let small : s < 4096 = All-head (λ (n : ℕ). n < 4096) s (owned os) all in
    All-cons IsSlot (Some s) os (omega (arith, small)) (named_slots os (All-tail (λ (n : ℕ). n < 4096) s (owned os) all))

own_slots : (r : Request) (p : Progress) → All IsSmall p.slots → AreSlots (owned_by r p)
own_slots r p all = named_slots (owned_by r p).slots (subst (λ (l : List ℕ). All IsSmall l) (sym (owned_choices (slot_choices r) p.slots)) (All-take IsSmall (slot_choices r) p.slots all))

module _ (s : Settings) (is_mid : IsMid s.mid) (address : IsAddress s.rules.media) where
  new_read : (r : Request) (p : Progress) → IsReadRequest r → IsSound s p → IsReplyMessage s.mid r.id.0 (reply_to s r p)
  new_read r p requested h = reply_read s.mid s.rules r (owned_by r p) p.state.maps is_mid address (own_slots r p h.slots) requested h.maps

  new_answered : (peer : ℕ) (from : List ℕ) (r : Request) (p : Progress) → IsReadRequest r → IsSound s p → IsAnswered s (question_in peer (item.Request r)) (new_step s peer from r p)
  new_answered peer from r p requested h = record {
    answers = (record { peer = refl; text = new_read r p requested h }, tt);
    after = record {
      maps = (transaction_kept s.rules address r (owned_by r p) p.state.maps (own_slots r p h.slots) requested h.maps).0;
      replies = kept_more s.mid p.state.kept (entry_for from r (reply_to s r p)) h.replies (new_read r p requested h);
      slots = All-drop IsSmall (slot_choices r) p.slots h.slots;
    };
  }

  over_answered : (peer : ℕ) (r : Request) (p : Progress) → IsReadRequest r → IsSound s p → IsAnswered s (question_in peer (item.Request r)) (over_step s peer r p)
  over_answered peer r p requested h = record { answers = (record { peer = refl; text = reply_is s.mid (over_reply r) is_mid (requested.number, tt) }, tt); after = h }

  request_answered : (peer : ℕ) (from : List ℕ) (r : Request) (p : Progress) (o : Option (List ℕ)) → IsReadRequest r → IsSound s p → bytes_for (key_of_request from r) p.state.kept.pairs ≡ o → IsAnswered s (question_in peer (item.Request r)) (request_step s peer from r p o)
  request_answered peer from r p (Some bytes) requested h e = record { answers = (record { peer = refl; text = kept_found s.mid (key_of_request from r) p.state.kept.pairs bytes h.replies e }, tt); after = h }
  request_answered peer from r p None requested h e = by (nat_lt p.count most_new)
    where
      by : (b : Bool) → IsAnswered s (question_in peer (item.Request r)) (cond b (new_step s peer from r p) (over_step s peer r p))
      by true = new_answered peer from r p requested h
      by false = over_answered peer r p requested h

  item_answered : (peer : ℕ) (from : List ℕ) (i : Item) (p : Progress) → IsItemInForm i → IsSound s p → IsAnswered s (question_in peer i) (item_step s peer from i p)
  unfolding item_step
  item_answered peer from (item.Request r) p requested h = request_answered peer from r p (bytes_for (key_of_request from r) p.state.kept.pairs) requested h refl
  item_answered peer from (item.Ack ranges) p requested h = record {
    answers = tt;
    after = record { maps = h.maps; replies = All-filter (λ (e : Entry). not (is_named from ranges (key_of e))) (IsKeptReply s.mid) p.state.kept.pairs h.replies; slots = h.slots };
  }
  item_answered peer from item.Ignored p requested h = record { answers = tt; after = h }

  turn_answered : {X : Type 0} (step : X → Progress → Step) (ask : X → List Question) (Good : X → Type 0) → ((x : X) (p : Progress) → Good x → IsSound s p → IsAnswered s (ask x) (step x p)) → (xs : List X) (p : Progress) → All Good xs → IsSound s p → IsAnswered s (flat_map ask xs) (in_turn step xs p)
  unfolding in_turn
  turn_answered step ask Good each [] p all h = record { answers = tt; after = h }
  turn_answered step ask Good each (x ∷ xs) p all h =
      let now = each x p (All-head Good x xs all) h in
      let rest = turn_answered step ask Good each xs (step x p).after (All-tail Good x xs all) now.after in
      record { answers = zip_append (IsAnswerTo s.mid) (ask x) (flat_map ask xs) (step x p).answers (in_turn step xs (step x p).after).answers now.answers rest.answers; after = rest.after }

  message_answered : (peer : ℕ) (m : Result Message Code) (p : Progress) → IsMessageInForm m → IsSound s p → IsAnswered s (questions_in peer m) (message_step s peer m p)
  message_answered peer (Ok m) p requested h = turn_answered (item_step s peer m.mid) (question_in peer) IsItemInForm (item_answered peer m.mid) m.items p requested h
  message_answered peer (Err code) p requested h = record { answers = (record { peer = refl; text = fault_is_error s.mid code is_mid }, tt); after = h }

  datagram_answered : (h : ReadDatagram) (p : Progress) → IsInForm h → IsSound s p → IsAnswered s (questions_in h.peer h.message) (datagram_step s h p)
  datagram_answered h p requested sound = message_answered h.peer h.message p requested sound

pub all_answered : (g : GatewayValue) (messages : List ReadDatagram) → IsWellFormed g.settings g.state → g.settings.slots ≤ 4096 → AreInForm messages → IsAnswered g.settings (questions messages) (burst_outcome g messages)
unfolding burst_outcome
all_answered g messages w few forms =
    let start : IsSound g.settings (start_of g) = record { maps = w.forms; replies = w.replies; slots = (free_unused g.state.maps g.state.slot_cursor g.settings.slots w.slot_cursor few).slots_small } in
    turn_answered g.settings w.mid w.address (datagram_step g.settings) (λ (h : ReadDatagram). questions_in h.peer h.message) IsInForm (datagram_answered g.settings w.mid w.address) messages (start_of g) forms start
