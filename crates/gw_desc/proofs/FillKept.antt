-- A filled Local is still octets of which all is kept.
use Rattle.std.proofs.Common.{ℕ, List, decimal}
use Rattle.gw_base.specs.Addresses.{IsAddress}
use Rattle.gw_desc.specs.Fill.{filled, port_of}
use Rattle.gw_desc.specs.KeptTexts.{IsKeptOctets}
use Rattle.gw_desc.proofs.FillChain.{all_reached}
use Rattle.gw_desc.proofs.FillForms.{reached_kept, address_plain, decimal_plain}

pub all_kept : (address : List ℕ) (slot stream : ℕ) (text : List ℕ) → IsAddress address → IsKeptOctets text → IsKeptOctets (filled address slot stream text)
all_kept address slot stream text a k =
    reached_kept address (decimal (port_of slot stream)) text (filled address slot stream text) (address_plain address a) (decimal_plain (port_of slot stream)) (all_reached address slot stream text) k
