-- Replies that are kept are messages with the reply to their transactions, and so is what a repeat gets.
use Rattle.std.proofs.Common.{◌≡◌, ℕ, ◌-◌, Bool, true, false, cond, List, [], ◌∷◌, ◌++◌, length, Some, refl, sym, ap, subst}
use Rattle.std.specs.List.{All}
use Rattle.std.proofs.lemmas.List.Elements.{All-head, All-tail, All-drop, All-push}
use Rattle.gw_base.specs.Addresses.{IsAddress}
use Rattle.gw_base.specs.Mids.{IsMid}
use Rattle.gw_reserve.specs.Ids.{Ids}
use Rattle.gw_base.specs.declared.command_words.Rules.{Rules}
use Rattle.gw_cmd.specs.KeptForms.{AreKept}
use Rattle.gw_kept.specs.Pairs.{KeptList, key_of, is_same, bytes_for, with_pair}
use Rattle.gw_kept.specs.declared.entry.Entry.{Entry}
use Rattle.gw_kept.specs.declared.entry.RequestKey.{RequestKey}
use Rattle.gw_kept.proofs.Places.{same_key}
use Rattle.gw_msg.specs.declared.message.Request.{Request}
use Rattle.gw_reply.specs.Messages.{reply_text}
use Rattle.gw_reply_law.specs.Spellings.{IsReplyMessage}
use Rattle.gw_reply_law.proofs.PartFits.{reply_is}
use Rattle.gw_table.specs.Maps.{Maps}
use Rattle.gw_tx.specs.KeptForms.{AreSlots, IsReadRequest}
use Rattle.gw_tx.specs.Transactions.{transaction}
use Rattle.gw_tx.proofs.FormsKept.{transaction_kept, transaction_id}
use Rattle.gw_engine.specs.State.{IsKeptReply}

-- the reply to a request that was carried out
pub reply_read : (mid : List ℕ) (rules : Rules) (r : Request) (ids : Ids) (m : Maps) → IsMid mid → IsAddress rules.media → AreSlots ids → IsReadRequest r → AreKept m → IsReplyMessage mid r.id.0 (reply_text mid (transaction rules r ids m).answer)
reply_read mid rules r ids m is address slots requested k = transaction_id rules mid r ids m (reply_is mid (transaction rules r ids m).answer is (transaction_kept rules address r ids m slots requested k).1)

module _ (mid : List ℕ) where
  -- one more is kept
  pub kept_more : (k : KeptList) (e : Entry) → All (IsKeptReply mid) k.pairs → IsKeptReply mid e → All (IsKeptReply mid) (with_pair k e).pairs
  kept_more k e all h = All-drop (IsKeptReply mid) (length (k.pairs ++ e ∷ []) - k.most) (k.pairs ++ e ∷ []) (All-push (IsKeptReply mid) k.pairs e all h)

  -- what is kept under a key is a reply of its number
  pub kept_found : (key : RequestKey) (es : List Entry) (bytes : List ℕ) → All (IsKeptReply mid) es → bytes_for key es ≡ Some bytes → IsReplyMessage mid key.id bytes
  kept_found key [] bytes all e = absurd cc
  kept_found key (x ∷ xs) bytes all e = by (is_same key (key_of x)) refl e (λ f. kept_found key xs bytes (All-tail (IsKeptReply mid) x xs all) f)
    where
      by : (b : Bool) → is_same key (key_of x) ≡ b → cond b (Some x.bytes) (bytes_for key xs) ≡ Some bytes → (bytes_for key xs ≡ Some bytes → IsReplyMessage mid key.id bytes) → IsReplyMessage mid key.id bytes
      by true same f more =
          let number : x.id.0 ≡ key.id = sym (ap (λ (k : RequestKey). k.id) (same_key key (key_of x) same)) in
          let text : x.bytes ≡ bytes = cc in
          subst (λ (n : ℕ). IsReplyMessage mid n bytes) number (subst (λ (t : List ℕ). IsReplyMessage mid x.id.0 t) text (All-head (IsKeptReply mid) x xs all))
      by false same f more = more f
