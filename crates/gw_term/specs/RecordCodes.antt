-- Codes, by which records are distinguished as values of maps (own).
use Rattle.std.specs.Prelude.{◌≡◌, ℕ, zero, suc, Bool, List, Option, refl}
use Rattle.std.specs.Coded.{Coded, code_by, coded×, coded_option, coded_list, coded_ℕ, coded_bool}
use Rattle.gw_base.specs.declared.ids.CtxNum.{CtxNum}
use Rattle.gw_base.specs.declared.command_words.Service.{Service}
use Rattle.gw_base.specs.declared.command_words.Service.TheVariants.{Test, OutOfService, InService}
use Rattle.gw_desc.specs.declared.descriptor.Sign.{Sign}
use Rattle.gw_desc.specs.declared.descriptor.Sign.TheVariants.{Equal, NotEqual, Less, Greater}
use Rattle.gw_desc.specs.declared.descriptor.Property.{Property}
use Rattle.gw_desc.specs.declared.descriptor.Tail.{Tail}
use Rattle.gw_desc.specs.declared.values.Mode.{Mode}
use Rattle.gw_desc.specs.declared.values.Mode.TheVariants.{SendOnly, ReceiveOnly, SendReceive, Inactive, Loopback}
use Rattle.gw_term.specs.declared.record.Stream.{Stream}
use Rattle.gw_term.specs.declared.record.Termination.{Termination}

abbrev service_number : Service → ℕ
service_number Test = 0
service_number OutOfService = 1
service_number InService = 2

abbrev service_at : ℕ → Service
service_at zero = Test
service_at (suc zero) = OutOfService
service_at (suc (suc k)) = InService

abbrev same_service : (s : Service) → service_at (service_number s) ≡ s
same_service Test = refl
same_service OutOfService = refl
same_service InService = refl

abbrev coded_service : Coded Service
coded_service = code_by ℕ coded_ℕ service_number service_at same_service

abbrev sign_number : Sign → ℕ
sign_number Equal = 0
sign_number NotEqual = 1
sign_number Less = 2
sign_number Greater = 3

abbrev sign_at : ℕ → Sign
sign_at zero = Equal
sign_at (suc zero) = NotEqual
sign_at (suc (suc zero)) = Less
sign_at (suc (suc (suc k))) = Greater

abbrev same_sign : (s : Sign) → sign_at (sign_number s) ≡ s
same_sign Equal = refl
same_sign NotEqual = refl
same_sign Less = refl
same_sign Greater = refl

abbrev coded_sign : Coded Sign
coded_sign = code_by ℕ coded_ℕ sign_number sign_at same_sign

abbrev mode_number : Mode → ℕ
mode_number SendOnly = 0
mode_number ReceiveOnly = 1
mode_number SendReceive = 2
mode_number Inactive = 3
mode_number Loopback = 4

abbrev mode_at : ℕ → Mode
mode_at zero = SendOnly
mode_at (suc zero) = ReceiveOnly
mode_at (suc (suc zero)) = SendReceive
mode_at (suc (suc (suc zero))) = Inactive
mode_at (suc (suc (suc (suc k)))) = Loopback

abbrev same_mode : (m : Mode) → mode_at (mode_number m) ≡ m
same_mode SendOnly = refl
same_mode ReceiveOnly = refl
same_mode SendReceive = refl
same_mode Inactive = refl
same_mode Loopback = refl

abbrev coded_mode : Coded Mode
coded_mode = code_by ℕ coded_ℕ mode_number mode_at same_mode

abbrev coded_number : Coded CtxNum
coded_number = code_by ℕ coded_ℕ (λ n. n.0) (λ k. record { 0 = k }) (λ _. refl)

abbrev coded_text : Coded (List ℕ)
coded_text = coded_list coded_ℕ

abbrev coded_property : Coded (Property (List ℕ))
coded_property =
    code_by (List ℕ × (Sign × List ℕ)) (coded× coded_text (coded× coded_sign coded_text))
    (λ p. (p.name, (p.sign, p.value))) (λ t. record { name = t.0; sign = t.1.0; value = t.1.1 }) (λ _. refl)

abbrev coded_tail : Coded (Tail (List ℕ))
coded_tail =
    code_by (Bool × (Option (List ℕ) × Option (List ℕ))) (coded× coded_bool (coded× (coded_option coded_text) (coded_option coded_text)))
    (λ t. (t.equals, (t.word, t.group))) (λ t. record { equals = t.0; word = t.1.0; group = t.1.1 }) (λ _. refl)

abbrev Texts : Type 0
Texts = Option (List ℕ) × Option (List ℕ)

abbrev coded_stream : Coded Stream
coded_stream =
    code_by (Mode × (List (Property (List ℕ)) × Texts)) (coded× coded_mode (coded× (coded_list coded_property) (coded× (coded_option coded_text) (coded_option coded_text))))
    (λ s. (s.mode, (s.properties, (s.local, s.remote)))) (λ t. record { mode = t.0; properties = t.1.0; local = t.1.1.0; remote = t.1.1.1 }) (λ _. refl)

abbrev Streams : Type 0
Streams = (Option Stream × Option Stream) × (Option Stream × Option Stream)

abbrev coded_streams : Coded Streams
coded_streams = coded× (coded× (coded_option coded_stream) (coded_option coded_stream)) (coded× (coded_option coded_stream) (coded_option coded_stream))

abbrev Kept : Type 0
Kept = Option (Tail (List ℕ))

abbrev Tails : Type 0
Tails = (Kept × Kept) × (Kept × Kept)

abbrev coded_tails : Coded Tails
coded_tails = coded× (coded× (coded_option coded_tail) (coded_option coded_tail)) (coded× (coded_option coded_tail) (coded_option coded_tail))

abbrev Parts : Type 0
Parts = (Option CtxNum × (Service × (Option ℕ × List (Property (List ℕ))))) × (Streams × Tails)

abbrev parts_of : Termination → Parts
parts_of r =
    let s = r.settings.streams in
    let t = r.settings.tails in
    ((r.place, (r.service, (r.slot, r.settings.properties))), (((s.first, s.second), (s.third, s.fourth)), ((t.events, t.signals), (t.digit_map, t.event_buffer))))

abbrev of_parts : Parts → Termination
of_parts p = record {
  place = p.0.0;
  service = p.0.1.0;
  slot = p.0.1.1.0;
  settings = record {
    properties = p.0.1.1.1;
    streams = record { first = p.1.0.0.0; second = p.1.0.0.1; third = p.1.0.1.0; fourth = p.1.0.1.1 };
    tails = record { events = p.1.1.0.0; signals = p.1.1.0.1; digit_map = p.1.1.1.0; event_buffer = p.1.1.1.1 };
  };
}

-- a termination's record
abbrev pub coded_termination : Coded Termination
coded_termination =
    code_by Parts (coded× (coded× (coded_option coded_number) (coded× coded_service (coded× (coded_option coded_ℕ) (coded_list coded_property)))) (coded× coded_streams coded_tails))
    parts_of of_parts (λ _. refl)
