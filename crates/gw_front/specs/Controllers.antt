-- The controllers of a gateway (RFC 3525, section 11: a gateway is configured with their addresses; the rest is own).
use Rattle.std.specs.Prelude.{◌≡◌, ℕ, nat_eq, ◌&&◌, ◌||◌, Bool, true, false, if◌then◌else◌, bytes_eq, ◌==◌, length, List, [], ◌∷◌, take, Option, None, Some}
use Rattle.std.specs.List.{list_any}
use Rattle.std.specs.Net.Addr.{ipv4_octets, ipv6_segments, low_octets}
use Rattle.std.specs.Net.Grammar.{IsIpText, IsSocketText}
use Rattle.std.specs.Net.Socket.{socket_ip, socket_port}
use Rattle.std.specs.declared.net.ip_addr.IpAddr.{IpAddr}
use Rattle.std.specs.declared.net.ip_addr.IpAddr.TheVariants.{V4, V6}
use Rattle.std.specs.declared.net.socket_addr.SocketAddr.{SocketAddr}
use Rattle.gw_front.specs.declared.controllers.Controller.{Controller}

-- ---- the text of a controller

-- an IP address alone, or with a port
abbrev pub IsHostText : List ℕ → IpAddr → Option ℕ → Type 0
IsHostText text host None = IsIpText text host
IsHostText text host (Some port) =
    (address : SocketAddr) × IsSocketText text address × (socket_ip address ≡ host) × (socket_port address ≡ port)

abbrev pub IsControllerText : List ℕ → Controller → Type 0
IsControllerText text controller = IsHostText text controller.host controller.port

-- ---- whose datagrams are taken

-- an address by its numbers
pub data Host : Type 0 where
  octets : List ℕ → Host
  segments : List ℕ → Host

-- the first six segments of ::ffff:a.b.c.d
abbrev pub mapped_front : List ℕ
mapped_front = 0 ∷ (0 ∷ (0 ∷ (0 ∷ (0 ∷ (0xffff ∷ [])))))

-- the host of an address: an IPv4 address that is mapped into IPv6 is that IPv4 address
abbrev pub host_of : IpAddr → Host
host_of (V4 a) = octets (ipv4_octets a)
host_of (V6 a) =
    if bytes_eq (take 6 (ipv6_segments a)) mapped_front then octets (low_octets a) else segments (ipv6_segments a)

abbrev pub is_one_host : Host → Host → Bool
is_one_host (octets a) (octets b) = bytes_eq a b
is_one_host (segments a) (segments b) = bytes_eq a b
is_one_host (octets a) (segments b) = false
is_one_host (segments a) (octets b) = false

abbrev pub is_same_host : IpAddr → IpAddr → Bool
is_same_host a b = is_one_host (host_of a) (host_of b)

-- the port is that one, where one is given
abbrev pub is_port : Option ℕ → ℕ → Bool
is_port None port = true
is_port (Some expected) port = nat_eq expected port

-- the sender is this controller
abbrev pub is_from : Controller → SocketAddr → Bool
is_from controller sender =
    is_same_host controller.host (socket_ip sender) && is_port controller.port (socket_port sender)

-- the sender is one of the controllers, or there are none
abbrev pub is_admitted : List Controller → SocketAddr → Bool
is_admitted controllers sender = (length controllers == 0) || list_any (λ c. is_from c sender) controllers
