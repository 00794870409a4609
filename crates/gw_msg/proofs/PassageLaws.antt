-- Reading a request is reading its tree.
use Rattle.std.proofs.Common.{◌≡◌, ℕ, List, Option, Some, None, Err, refl, sym, ap, ◌∙◌}
use Rattle.gw_text.specs.Parts.{Gives}
use Rattle.gw_text.specs.declared.fault.ParseFault.{ParseFault}
use Rattle.gw_text.specs.declared.fault.ParseFault.TheVariants.{Syntax, NoMemory}
use Rattle.gw_msg.specs.declared.message.Action.{Action}
use Rattle.gw_msg.specs.declared.message.Request.{Request}
use Rattle.gw_msg.specs.declared.message.Item.{Item}
use Rattle.gw_msg.specs.declared.message.Item.TheVariants as item
use Rattle.gw_text.specs.Lexical.{equals_sign}
use Rattle.gw_text.specs.Sign.{sign_at}
use Rattle.gw_text.specs.Reader.{◌>>=◌, number_at, braced_at}
use Rattle.gw_msg.specs.ActionReading.{action_at, request_tree_at}
use Rattle.gw_msg.specs.Reading.{request_at}
use Rattle.gw_msg.specs.RequestSources.{Begins, IsText, found_or_none, request_from}

abbrev tree_of : ℕ → List Action → Request
tree_of id actions = record { id = record { 0 = id }; actions = actions }

-- what is read of a request, as an item
abbrev pub as_item : Option (Request × List ℕ) → Option (Item × List ℕ)
as_item o = o >>= λ x. Some (item.Request x.0, x.1)

from_actions : (id : ℕ) (o : Option (List Action × List ℕ)) → (o >>= λ x. Some (item.Request (tree_of id x.0), x.1)) ≡ as_item (o >>= λ x. Some (tree_of id x.0, x.1))
from_actions id None = refl
from_actions id (Some x) = refl

from_number : (o : Option (ℕ × List ℕ)) → (o >>= λ n. braced_at action_at n.1 >>= λ x. Some (item.Request (tree_of n.0 x.0), x.1)) ≡ as_item (o >>= λ n. braced_at action_at n.1 >>= λ x. Some (tree_of n.0 x.0, x.1))
from_number None = refl
from_number (Some n) = from_actions n.0 (braced_at action_at n.1)

from_sign : (o : Option (List ℕ)) → (o >>= λ text. number_at text >>= λ n. braced_at action_at n.1 >>= λ x. Some (item.Request (tree_of n.0 x.0), x.1)) ≡ as_item (o >>= λ text. number_at text >>= λ n. braced_at action_at n.1 >>= λ x. Some (tree_of n.0 x.0, x.1))
from_sign None = refl
from_sign (Some text) = from_number (number_at text)

pub item_of_tree : (text : List ℕ) → request_at text ≡ as_item (request_tree_at text)
unfolding request_at request_tree_at
item_of_tree text = from_sign (sign_at equals_sign text)

pub item_fails : (fault : ParseFault) (new end text : List ℕ) → Gives {V = Request} (Err fault) new (request_tree_at text) → Gives {V = Item} (Err fault) end (request_at text)
item_fails Syntax new end text h = item_of_tree text ∙ ap as_item h
item_fails NoMemory new end text h = tt

pub item_reads : (text new : List ℕ) (tree whole : Request) → request_tree_at text ≡ Some (tree, new) → whole ≡ tree → request_at text ≡ Some (item.Request whole, new)
item_reads text new tree whole h e = item_of_tree text ∙ ap as_item h ∙ ap (λ r. Some (item.Request r, new)) (sym e)

-- the request that is found where it begins
pub from_its_text : (text : List ℕ) (r : Request) → Begins text r → request_from text ≡ r
unfolding request_from
from_its_text text r b = ap found_or_none b.is_read

pub begins_itself : (text : List ℕ) (r : Request) → Begins text r → IsText r.id text
begins_itself text r b =
    let e : request_from text ≡ r = from_its_text text r b in
    record { number = ap (λ (x : Request). x.id) (sym e); begins = record { rest = b.rest; is_read = b.is_read ∙ ap (λ (x : Request). Some (x, b.rest)) (sym e) } }
