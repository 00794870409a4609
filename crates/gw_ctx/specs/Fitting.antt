-- What a context's properties have to be (RFC 3525, sections 6.1.1 and 7.1.18; that links are of members alone is own).
use Rattle.std.specs.Prelude.{◌≡◌, ◌≢◌, ℕ, ◌≤◌, true, false, List, All, AllPairs, bytes_eq}
use Rattle.gw_base.specs.NameLists.{is_in}
use Rattle.gw_base.specs.declared.context_words.Flow.TheVariants.{Bothway}
use Rattle.gw_base.specs.declared.context_words.Link.{Link}
use Rattle.gw_ctx.specs.Contexts.{ContextRecord, is_other_pair}

-- the highest priority
abbrev pub priority_max : ℕ
priority_max = 15

-- two of these names are linked, which differ; where media flow both ways there is no link
pub record Joins (members : List (List ℕ)) (link : Link) : Type 0 where
  pub first : is_in link.a members ≡ true
  pub second : is_in link.b members ≡ true
  pub apart : bytes_eq link.a link.b ≡ false
  pub not_bothway : link.flow ≢ Bothway

-- a priority that there is, and links between members, at most one for a pair
pub record IsFit (c : ContextRecord) : Type 0 where
  pub priority : c.priority ≤ priority_max
  pub joins : All (Joins c.members) c.links
  pub pairs : AllPairs (λ earlier later. is_other_pair later earlier ≡ true) c.links
