-- The properties of a context in an action reply (RFC 3525, Annex B.2, priority, emergency, topologyDescriptor; without white space:
-- own).
use Rattle.std.specs.Prelude.{ℕ, List, ◌++◌, map, codes, decimal}
use Rattle.gw_base.specs.declared.context_words.Flow.{Flow}
use Rattle.gw_base.specs.declared.context_words.Flow.TheVariants.{Bothway, Isolate, Oneway}
use Rattle.gw_base.specs.declared.context_words.Link.{Link}
use Rattle.gw_reply.specs.declared.context_parts.ContextPart.{ContextPart}
use Rattle.gw_reply.specs.declared.context_parts.ContextPart.TheVariants.{Priority, Emergency, Topology}
use Rattle.gw_reply.specs.Lists.{comma_separated, in_braces}

-- the long token of a topologyDirection
abbrev pub flow_word : Flow → List ℕ
flow_word Bothway = codes "Bothway"
flow_word Isolate = codes "Isolate"
flow_word Oneway = codes "Oneway"

-- <TerminationID>,<TerminationID>,<direction>
abbrev pub link_text : Link → List ℕ
link_text link = link.a ++ codes "," ++ link.b ++ codes "," ++ flow_word link.flow

-- Priority=<n>; Emergency; Topology{..}
abbrev pub context_part_text : ContextPart → List ℕ
context_part_text (Priority priority) = codes "Priority=" ++ decimal priority
context_part_text Emergency = codes "Emergency"
context_part_text (Topology links) = codes "Topology" ++ in_braces (comma_separated (map link_text links))
