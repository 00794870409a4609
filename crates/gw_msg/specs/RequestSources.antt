-- What is kept of a request in its message: its tree, or where its text begins (own).
use Rattle.std.specs.Prelude.{◌≡◌, ℕ, List, [], length, Option, Some, None, Result, Ok, Err}
use Rattle.gw_base.specs.declared.ids.TxId.{TxId}
use Rattle.gw_text.specs.declared.fault.ParseFault.{ParseFault}
use Rattle.gw_text.specs.declared.fault.ParseFault.TheVariants.{Syntax, NoMemory}
use Rattle.gw_msg.specs.declared.message.Request.{Request}
use Rattle.gw_msg.specs.declared.source.Form.{Form}
use Rattle.gw_msg.specs.declared.source.Form.TheVariants as form
use Rattle.gw_msg.specs.ActionReading.{request_tree_at}

-- a request that is read, or one of nothing
abbrev pub found_or_none : Option (Request × List ℕ) → Request
found_or_none (Some x) = x.0
found_or_none None = record { id = record { 0 = 0 }; actions = [] }

-- the request whose text begins so
unfoldable pub request_from : List ℕ → Request
request_from text = found_or_none (request_tree_at text)

abbrev pub request_in : Form → Request
request_in (form.Tree r) = r
request_in (form.Text id begin) = request_from begin

-- Reading finds the request where its text begins.
pub record Begins (text : List ℕ) (r : Request) : Type 0 where
  pub rest : List ℕ
  pub is_read : request_tree_at text ≡ Some (r, rest)

-- the request can be read again, and has the number that was kept
pub record IsText (id : TxId) (begin : List ℕ) : Type 0 where
  pub number : id ≡ (request_from begin).id
  pub begins : Begins begin (request_from begin)

abbrev pub IsRequestSource : Form → Type 0
IsRequestSource (form.Tree r) = Unit {0}
IsRequestSource (form.Text id begin) = IsText id begin

-- A request of this number is found, with so many bytes left behind it.
pub record HasGlance (text : List ℕ) (id : TxId) (left : ℕ) : Type 0 where
  pub request : Request
  pub rest : List ℕ
  pub is_read : request_tree_at text ≡ Some (request, rest)
  pub number : id ≡ request.id
  pub behind : left ≡ length rest

-- What a function returned is what is kept of the request that is found, unless memory ran out.
abbrev pub Glances : Result (TxId × ℕ) ParseFault → List ℕ → Type 0
Glances (Ok x) text = HasGlance text x.0 x.1
Glances (Err Syntax) text = request_tree_at text ≡ None
Glances (Err NoMemory) text = Unit {0}
