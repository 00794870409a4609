use Rattle.std.proofs.Common.{◌≡◌, ◌==◌, false, List, ℕ, refl}
use Rattle.std.specs.List.{list_any}
use Rattle.gw_base.specs.Addresses.{is_address_byte, IsAddress}
use Rattle.gw_base.specs.Mids.{IsOptionalPort}
use Rattle.gw_base.proofs.Booleans.{not_among}
use Rattle.gw_base.proofs.Enclosures.{enclosed, parts_of}
use Rattle.gw_base.proofs.mid.is_bracketed.Goals as goal

-- the closing byte is not within
free : (body : List ℕ) → IsAddress body → list_any (λ z. z == 93) body ≡ false
free body h = not_among is_address_byte 93 body refl h.each

pub returns-then-is_address : goal.returns-then-is_address
returns-then-is_address c = (
  λ t. enclosed 93 IsAddress IsOptionalPort c.args.text.now c.in-Some.address.now c.in-Some.port.now c.in-Some.ensures.split (c.if-is_address.ensures.0 refl) (c.is_optional_port.ensures.0 t),
  λ h. c.is_optional_port.ensures.1 (parts_of 93 IsAddress IsOptionalPort c.args.text.now c.in-Some.address.now c.in-Some.port.now free c.in-Some.ensures.split c.in-Some.ensures.first h).1,
)

pub returns-else-is_address : goal.returns-else-is_address
returns-else-is_address c = (
  λ t. absurd cc,
  λ h. c.is_address.ensures.1 (parts_of 93 IsAddress IsOptionalPort c.args.text.now c.in-Some.address.now c.in-Some.port.now free c.in-Some.ensures.split c.in-Some.ensures.first h).0,
)
