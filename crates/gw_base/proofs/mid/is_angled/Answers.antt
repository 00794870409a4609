use Rattle.std.proofs.Common.{◌≡◌, ◌==◌, false, List, ℕ, refl}
use Rattle.std.specs.List.{list_any}
use Rattle.gw_base.specs.Mids.{is_domain_byte, IsDomain, IsOptionalPort}
use Rattle.gw_base.proofs.Booleans.{not_among}
use Rattle.gw_base.proofs.Enclosures.{enclosed, parts_of}
use Rattle.gw_base.proofs.mid.is_angled.Goals as goal

-- the closing byte is not within
free : (body : List ℕ) → IsDomain body → list_any (λ z. z == 62) body ≡ false
free body h = not_among is_domain_byte 62 body refl h.each

pub returns-then-is_domain : goal.returns-then-is_domain
returns-then-is_domain c = (
  λ t. enclosed 62 IsDomain IsOptionalPort c.args.text.now c.in-Some.domain.now c.in-Some.port.now c.in-Some.ensures.split (c.if-is_domain.ensures.0 refl) (c.is_optional_port.ensures.0 t),
  λ h. c.is_optional_port.ensures.1 (parts_of 62 IsDomain IsOptionalPort c.args.text.now c.in-Some.domain.now c.in-Some.port.now free c.in-Some.ensures.split c.in-Some.ensures.first h).1,
)

pub returns-else-is_domain : goal.returns-else-is_domain
returns-else-is_domain c = (
  λ t. absurd cc,
  λ h. c.is_domain.ensures.1 (parts_of 62 IsDomain IsOptionalPort c.args.text.now c.in-Some.domain.now c.in-Some.port.now free c.in-Some.ensures.split c.in-Some.ensures.first h).0,
)
