-- The forms of what a request has, and of what it owns (own).
use Rattle.std.specs.List.{All}
use Rattle.gw_msg.specs.declared.message.Action.{Action}
use Rattle.gw_msg.specs.declared.message.ContextProp.{ContextProp}
use Rattle.gw_msg.specs.declared.message.Request.{Request}
use Rattle.gw_msg.specs.declared.message.Triple.{Triple}
use Rattle.gw_reserve.specs.Ids.{Ids}
use Rattle.gw_reply.specs.KeptReplies.{HasForm, IsWide}
use Rattle.gw_cmd.specs.KeptForms.{IsRequested, IsSlot}
use Rattle.gw_tx.specs.Properties.{triples_in}

-- both TerminationIDs of a triple have their forms
abbrev pub HasForms : Triple → Type 0
HasForms t = HasForm t.a × HasForm t.b

-- those in a Topology have them
abbrev pub IsRequestedProperty : ContextProp → Type 0
IsRequestedProperty p = All HasForms (triples_in p)

-- the TerminationIDs and the descriptors of an action have their forms
pub record AreRequested (a : Action) : Type 0 where
  pub props : All IsRequestedProperty a.props
  pub commands : All IsRequested a.commands

-- so do those of a request, whose number has 32 bits
pub record IsReadRequest (r : Request) : Type 0 where
  pub number : IsWide r.id.0
  pub actions : All AreRequested r.actions

-- the names of the slots that are owned are names
abbrev pub AreSlots : Ids → Type 0
AreSlots ids = All IsSlot ids.slots
