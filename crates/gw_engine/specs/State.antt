-- The state of a gateway, and what was configured (RFC 3525, section 6; the cursors and the kept replies are own).
use Rattle.std.specs.Prelude.{◌≡◌, ℕ, ◌≤◌, List, length, refl}
use Rattle.std.specs.List.{All}
use Rattle.std.specs.Coded.{Coded, code_by, coded×, coded_list, coded_ℕ}
use Rattle.gw_base.specs.Addresses.{IsAddress}
use Rattle.gw_base.specs.Mids.{IsMid}
use Rattle.gw_base.specs.declared.command_words.Rules.{Rules}
use Rattle.gw_cmd.specs.KeptForms.{AreKept}
use Rattle.gw_kept.specs.Pairs.{KeptList, AreDistinct, coded_kept}
use Rattle.gw_kept.specs.declared.entry.Entry.{Entry}
use Rattle.gw_reply_law.specs.Spellings.{IsReplyMessage}
use Rattle.gw_table.specs.Maps.{Maps, coded_maps}
use Rattle.gw_table.specs.WellFormed.{AreWellFormed}

-- What changes: the tables, where the search for free numbers and slots begins, and the replies that are kept, oldest
-- first.
pub record State : Type 0 where
  pub maps : Maps
  pub context_cursor : ℕ
  pub slot_cursor : ℕ
  pub kept : KeptList

-- what was configured and never changes
pub record Settings : Type 0 where
  pub mid : List ℕ
  pub rules : Rules
  pub contexts : ℕ
  pub slots : ℕ
  pub keep : ℕ

-- what was configured, and the state
pub record GatewayValue : Type 0 where
  pub settings : Settings
  pub state : State

-- what is kept of a transaction is a message from this mId with the reply of its number
abbrev pub IsKeptReply : List ℕ → Entry → Type 0
IsKeptReply mid e = IsReplyMessage mid e.id.0 e.bytes

-- The gateway's own mId and the address of its media have their forms; the tables fit together, and what they keep as
-- sent has its form; the cursors are within the limits; no more replies are kept than may be, each to another
-- transaction, and can be read.
pub record IsWellFormed (settings : Settings) (state : State) : Type 0 where
  pub mid : IsMid settings.mid
  pub address : IsAddress settings.rules.media
  pub maps : AreWellFormed settings.rules.members state.maps
  pub forms : AreKept state.maps
  pub context_cursor : state.context_cursor ≤ settings.contexts
  pub slot_cursor : state.slot_cursor ≤ settings.slots
  pub most : state.kept.most ≡ settings.keep
  pub kept : length state.kept.pairs ≤ settings.keep
  pub distinct : AreDistinct state.kept.pairs
  pub replies : All (IsKeptReply settings.mid) state.kept.pairs

-- ---- codes, by which values of models are distinguished

abbrev coded_bytes : Coded (List ℕ)
coded_bytes = coded_list coded_ℕ

abbrev pub coded_state : Coded State
coded_state =
    code_by (Maps × (ℕ × (ℕ × KeptList))) (coded× coded_maps (coded× coded_ℕ (coded× coded_ℕ coded_kept)))
    (λ s. (s.maps, (s.context_cursor, (s.slot_cursor, s.kept))))
    (λ p. record { maps = p.0; context_cursor = p.1.0; slot_cursor = p.1.1.0; kept = p.1.1.1 }) (λ _. refl)

abbrev pub coded_rules : Coded Rules
coded_rules = code_by (List ℕ × ℕ) (coded× coded_bytes coded_ℕ) (λ r. (r.media, r.members)) (λ p. record { media = p.0; members = p.1 }) (λ _. refl)

abbrev pub coded_settings : Coded Settings
coded_settings =
    code_by (List ℕ × (Rules × (ℕ × (ℕ × ℕ)))) (coded× coded_bytes (coded× coded_rules (coded× coded_ℕ (coded× coded_ℕ coded_ℕ))))
    (λ s. (s.mid, (s.rules, (s.contexts, (s.slots, s.keep)))))
    (λ p. record { mid = p.0; rules = p.1.0; contexts = p.1.1.0; slots = p.1.1.1.0; keep = p.1.1.1.1 }) (λ _. refl)

abbrev pub coded_gateway : Coded GatewayValue
coded_gateway = code_by (Settings × State) (coded× coded_settings coded_state) (λ g. (g.settings, g.state)) (λ p. record { settings = p.0; state = p.1 }) (λ _. refl)
