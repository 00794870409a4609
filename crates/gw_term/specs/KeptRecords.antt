-- The forms of what a record keeps as sent (own).
use Rattle.std.specs.List.{All}
use Rattle.gw_desc.specs.KeptTexts.{IsOptional, IsKeptProperty, IsKeptTail, IsKeptOctets}
use Rattle.gw_desc.specs.declared.descriptor.KeptKind.{KeptKind}
use Rattle.gw_term.specs.declared.record.Stream.{Stream}
use Rattle.gw_term.specs.declared.record.Termination.{Termination}
use Rattle.gw_term.specs.Places.{AtEach}
use Rattle.gw_term.specs.Record.{tail_of}

-- a stream's properties, its Local and its Remote
pub record IsKeptStream (s : Stream) : Type 0 where
  pub properties : All IsKeptProperty s.properties
  pub local : IsOptional IsKeptOctets s.local
  pub remote : IsOptional IsKeptOctets s.remote

-- a termination's properties, its streams and its tails
pub record IsKeptRecord (r : Termination) : Type 0 where
  pub properties : All IsKeptProperty r.settings.properties
  pub streams : AtEach (λ _. IsOptional IsKeptStream) r.settings.streams
  pub tails : (kind : KeptKind) → IsOptional IsKeptTail (tail_of kind r)
