-- What is kept of a request whose tree is let go: where its text begins, and where it ends.
use Rattle.std.proofs.Common.{◌≡◌, ◌≤◌, ℕ, List, length, Some, ap, sym, ◌∙◌, length-append, arith}
use Rattle.gw_base.specs.declared.ids.TxId.{TxId}
use Rattle.gw_text.specs.Longest.{IsAhead}
use Rattle.gw_text.proofs.Ahead.{one_ahead}
use Rattle.gw_msg.specs.declared.message.Request.{Request}
use Rattle.gw_msg.specs.declared.message.Item.TheVariants as item
use Rattle.gw_msg.specs.ActionReading.{request_tree_at}
use Rattle.gw_msg.specs.RequestSources.{IsText, HasGlance, request_from}
use Rattle.gw_msg.proofs.PassageLaws.{as_item, item_of_tree, from_its_text, begins_itself}
use Rattle.gw_msg.proofs.ItemLaws.{request_reads}

-- a request takes the front of a text
tree_ahead : (text : List ℕ) (r : Request) (rest : List ℕ) → request_tree_at text ≡ Some (r, rest) → IsAhead text rest
tree_ahead text r rest e =
    let s = request_reads.sound text (item.Request r) rest (item_of_tree text ∙ ap as_item e) in
    (s.0, s.1)

pub glanced_within : (text : List ℕ) (id : TxId) (left : ℕ) → HasGlance text id left → left ≤ length text
glanced_within text id left h = grind (arith, tree_ahead, length-append)

-- where as much is left, the request ends
pub glanced_there : (text new : List ℕ) (id : TxId) (left : ℕ) → HasGlance text id left → IsAhead text new → length new ≡ left → request_tree_at text ≡ Some (request_from text, new)
glanced_there text new id left h ahead as_long =
    let same : h.rest ≡ new = one_ahead text h.rest new (tree_ahead text h.request h.rest h.is_read) ahead (sym h.behind ∙ sym as_long) in
    let own : request_from text ≡ h.request = from_its_text text h.request (record { rest = h.rest; is_read = h.is_read }) in
    h.is_read ∙ ap (λ (x : List ℕ). Some (h.request, x)) same ∙ ap (λ (r : Request). Some (r, new)) (sym own)

pub glanced_text : (text : List ℕ) (id : TxId) (left : ℕ) → HasGlance text id left → IsText id text
glanced_text text id left h =
    let own = begins_itself text h.request (record { rest = h.rest; is_read = h.is_read }) in
    record { number = h.number ∙ own.number; begins = own.begins }
