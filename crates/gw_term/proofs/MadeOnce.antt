-- Where descriptors fill nothing of a record that has a slot, they make the same whatever the slot.
use Rattle.std.proofs.Common.{◌≡◌, ℕ, ◌==◌, length, Bool, true, false, not, if◌then◌else◌, List, [], ◌∷◌, ◌++◌, Option, Some, None, Ok, refl, ap, sym, ◌∙◌, eqb-true}
use Rattle.std.proofs.lemmas.List.{nil_from_length}
use Rattle.std.specs.Prelude.{◌&&◌, decimal}
use Rattle.std.specs.Option.{is_some, option_map, unwrap_or}
use Rattle.gw_base.specs.declared.command_words.Rules.{Rules}
use Rattle.gw_desc.specs.Fill.{filled, is_fillable, port_of}
use Rattle.gw_desc.specs.declared.descriptor.Descriptor.{Descriptor}
use Rattle.gw_desc.specs.declared.descriptor.Property.{Property}
use Rattle.gw_desc.proofs.FillChain.{nothing_filled}
use Rattle.gw_reply.specs.declared.parts.FilledStream.{FilledStream}
use Rattle.gw_term.specs.declared.apply.Applied.{Applied}
use Rattle.gw_term.specs.declared.gathered.Gathered.{Gathered}
use Rattle.gw_term.specs.declared.gathered.SentMedia.{SentMedia}
use Rattle.gw_term.specs.declared.gathered.SentStream.{SentStream}
use Rattle.gw_term.specs.declared.places.PerStream.{PerStream}
use Rattle.gw_term.specs.declared.record.Stream.{Stream}
use Rattle.gw_term.specs.declared.record.Termination.{Termination}
use Rattle.gw_term.specs.declared.streams.Merging.{Merging}
use Rattle.gw_term.specs.declared.streams.Outcome.{Outcome}
use Rattle.gw_term.specs.Applies.{IsMerged}
use Rattle.gw_term.specs.Gathered.{applied, applied_to, filled_after, last_tail, local_after, media_sent, nothing_sent, onto, outcome_by, outcome_of, remote_after, tails_after, with_merging, with_stream_of, with_streams_of, IsForEachSlot, IsGathered, IsMadeOf}
use Rattle.gw_term.specs.Merge.{and_then, begun, each, filled_in, local_if, put_property}
use Rattle.gw_term.specs.Places.{kinds_read, of_kinds}
use Rattle.gw_term.specs.Settings.{Settings, nothing_set}
use Rattle.gw_term.proofs.Gathering.{merged_is}
use Rattle.gw_term.proofs.Made.{first_then, mapped_from}

no_items : {A : Type 0} (xs : List A) → (length xs == 0) ≡ true → xs ≡ []
no_items xs h = nil_from_length xs (eqb-true (length xs) 0 h)

both_empty : {A : Type 0} (xs ys : List A) → xs ++ ys ≡ [] → (xs ≡ []) × (ys ≡ [])
both_empty [] ys h = (refl, h)
both_empty (x ∷ xs) ys h = absurd cc

-- a Local that is sent has something to fill
abbrev fills : Option SentStream → Bool
fills sent = filled_after (Some 0) (unwrap_or sent nothing_sent).local false

record FillNone (m : SentMedia) : Type 0 where
  first : fills m.first ≡ false
  second : fills m.second ≡ false
  third : fills m.third ≡ false
  fourth : fills m.fourth ≡ false

-- ---- a stream to which nothing is sent that is filled

module _ (rules : Rules) (number : ℕ) where
  text_same : (slot : ℕ) (text : List ℕ) → is_fillable text ≡ false → filled rules.media slot number text ≡ text
  unfolding filled
  text_same slot text h = nothing_filled rules.media (decimal (port_of slot number)) text h

  local_same : (slot : Option ℕ) (sent old : Option (List ℕ)) → filled_after (Some 0) sent false ≡ false → local_after rules slot number sent old ≡ local_after rules None number sent old
  local_same None sent old h = refl
  local_same (Some slot) None old h = refl
  local_same (Some slot) (Some text) old h = ap Some (text_same slot text h)

  unfilled : (slot : Option ℕ) (sent : Option (List ℕ)) (old : Bool) → filled_after (Some 0) sent false ≡ false → filled_after slot sent old ≡ filled_after None sent old
  unfilled None sent old h = refl
  unfilled (Some slot) None old h = refl
  unfilled (Some slot) (Some text) old h = h

  applied_same : (slot : Option ℕ) (s : SentStream) (m : Merging) → filled_after (Some 0) s.local false ≡ false → applied rules slot number s m ≡ applied rules None number s m
  applied_same slot s m h =
      (λ i. option_map (λ (list : List (Property (List ℕ))). (let x : Merging = record {
        stream = (let y : Stream = record {
          mode = unwrap_or s.mode m.stream.mode;
          properties = list;
          local = local_same slot s.local m.stream.local h i;
          remote = remote_after s.remote m.stream.remote;
        } in y);
        filled = unfilled slot s.local m.filled h i;
      } in x)) (each put_property s.properties m.stream.properties))

  stream_same : (slot : Option ℕ) (sent : Option SentStream) → fills sent ≡ false → (old : Option Stream) (o : Outcome) → with_stream_of rules slot number sent old o ≡ with_stream_of rules None number sent old o
  stream_same slot (Some s) h old o = ap (option_map (λ m. with_merging number m o)) (applied_same slot s (begun old) h)
  stream_same slot None h (Some old) o = ap (option_map (λ m. with_merging number m o)) (applied_same slot nothing_sent (begun (Some old)) refl)
  stream_same slot None h None o = refl

  -- ---- nothing was filled of it

  sent_unfilled : (slot : ℕ) (s : SentStream) (m : Merging) (list : List (Property (List ℕ))) → filled_in number (Some (onto rules (Some slot) number s m list)) ≡ [] → fills (Some s) ≡ false
  sent_unfilled slot s m list h = by s.local h
    where
      by : (local : Option (List ℕ)) → filled_in number (Some (onto rules (Some slot) number (record s { local = local }) m list)) ≡ [] → filled_after (Some 0) local false ≡ false
      by None h = refl
      by (Some text) h = test (is_fillable text) h
        where
          test : (b : Bool) → (if b then local_if number (Some (filled rules.media slot number text)) else []) ≡ [] → b ≡ false
          test true h = absurd cc
          test false h = refl

  stream_unfilled : (slot : ℕ) (sent : Option SentStream) (old : Option Stream) (o n : Outcome) → with_stream_of rules (Some slot) number sent old o ≡ Some n → n.filled ≡ [] → (o.filled ≡ []) × (fills sent ≡ false)
  stream_unfilled slot (Some s) old o n e h =
      let made = mapped_from (applied rules (Some slot) number s (begun old)) (λ m. with_merging number m o) n e in
      let of = mapped_from (each put_property s.properties (begun old).stream.properties) (onto rules (Some slot) number s (begun old)) made.0 made.1 in
      let none = both_empty o.filled (filled_in number (Some made.0)) (ap (λ (x : Outcome). x.filled) (sym made.2) ∙ h) in
      (none.0, sent_unfilled slot s (begun old) of.0 (ap (λ (m : Merging). filled_in number (Some m)) (sym of.2) ∙ none.1))
  stream_unfilled slot None (Some old) o n e h =
      let made = mapped_from (applied rules (Some slot) number nothing_sent (begun (Some old))) (λ m. with_merging number m o) n e in
      ((both_empty o.filled (filled_in number (Some made.0)) (ap (λ (x : Outcome). x.filled) (sym made.2) ∙ h)).0, refl)
  stream_unfilled slot None None o n e h = let same : o ≡ n = cc in (ap (λ (x : Outcome). x.filled) same ∙ h, refl)

-- ---- the whole

module _ (rules : Rules) (m : SentMedia) where
  streams_same : FillNone m → (slot : Option ℕ) (old : PerStream (Option Stream)) (o : Outcome) → with_streams_of rules slot m old o ≡ with_streams_of rules None m old o
  streams_same h slot old o =
      (λ i. and_then (stream_same rules 1 slot m.first h.first old.first o i) (λ o.
      and_then (stream_same rules 2 slot m.second h.second old.second o i) (λ o.
      and_then (stream_same rules 3 slot m.third h.third old.third o i) (λ o. stream_same rules 4 slot m.fourth h.fourth old.fourth o i))))

  streams_unfilled : (slot : ℕ) (old : PerStream (Option Stream)) (o n : Outcome) → with_streams_of rules (Some slot) m old o ≡ Some n → n.filled ≡ [] → FillNone m
  streams_unfilled slot old o n e h =
      let a = first_then (with_stream_of rules (Some slot) 1 m.first old.first o) _ n e in
      let b = first_then (with_stream_of rules (Some slot) 2 m.second old.second a.0) _ n a.2 in
      let c = first_then (with_stream_of rules (Some slot) 3 m.third old.third b.0) _ n b.2 in
      let fourth = stream_unfilled rules 4 slot m.fourth old.fourth c.0 n c.2 h in
      let third = stream_unfilled rules 3 slot m.third old.third b.0 c.0 c.1 fourth.0 in
      let second = stream_unfilled rules 2 slot m.second old.second a.0 b.0 b.1 third.0 in
      let first = stream_unfilled rules 1 slot m.first old.first o a.0 a.1 second.0 in
      record { first = first.1; second = second.1; third = third.1; fourth = fourth.1 }

module _ (rules : Rules) (ds : List Descriptor) where
  pub for_each_slot : (slot : Option ℕ) (before after : Settings) (filled : List FilledStream) → (length filled == 0) ≡ true → is_some slot ≡ true
      → outcome_by rules ds slot before ≡ Some (record { settings = after; filled = filled }) → IsForEachSlot rules ds
  for_each_slot None before after filled empty there e = absurd cc
  for_each_slot (Some slot) before after filled empty there e =
      let made = first_then (each put_property (media_sent ds).properties before.properties) _ (let x : Outcome = record { settings = after; filled = filled } in x) e in
      let none = streams_unfilled rules (media_sent ds) slot before.streams _ (let x : Outcome = record { settings = after; filled = filled } in x) made.2 (no_items filled empty) in
      λ any old. (λ i. and_then (each put_property (media_sent ds).properties old.properties) (λ properties.
      streams_same rules (media_sent ds) none any old.streams (let x : Outcome = record {
        settings = record nothing_set { properties = properties; tails = tails_after (of_kinds (λ kind. last_tail kind ds)) old.tails };
        filled = [];
      } in x) i))

  -- what was made of one record is made of its settings
  pub made_of : (slot : Option ℕ) (before after : Settings) (filled : List FilledStream) → (length filled == 0) ≡ true → outcome_by rules ds slot before ≡ Some (record { settings = after; filled = filled }) → IsMadeOf rules ds before after
  made_of None before after filled empty e = e ∙ ap (λ (f : List FilledStream). Some (let o : Outcome = record { settings = after; filled = f } in o)) (no_items filled empty)
  made_of (Some slot) before after filled empty e =
      sym (for_each_slot (Some slot) before after filled empty refl e (Some slot) before)
      ∙ e ∙ ap (λ (f : List FilledStream). Some (let o : Outcome = record { settings = after; filled = f } in o)) (no_items filled empty)

  -- and what is made of its settings, of each record that has them
  pub made_again : (g : Gathered) (r : Termination) (after : Settings) → IsGathered ds g → outcome_by rules ds r.slot r.settings ≡ Some (record { settings = after; filled = [] })
      → IsMerged rules ds r (Ok (record { «record» = record r { service = unwrap_or g.media.service r.service; settings = after }; filled = [] }))
  made_again g r after gathered e =
      merged_is rules ds r g (Ok (let a : Applied = record { «record» = record r { service = unwrap_or g.media.service r.service; settings = after }; filled = [] } in a)) gathered
      (ap (option_map (λ (o : Outcome). ((let x : Termination = record { place = r.place; service = unwrap_or g.media.service r.service; slot = r.slot; settings = o.settings } in x), o.filled)))
      ((λ i. outcome_of rules r.slot (gathered.media i) (gathered.tails i) r.settings) ∙ e))

  pub made_for : (fills_none : Bool) (slot : Option ℕ) (before after : Settings) → (fills_none ≡ true → IsForEachSlot rules ds) → (is_some slot && not fills_none) ≡ false → IsMadeOf rules ds before after
      → outcome_by rules ds slot before ≡ Some (record { settings = after; filled = [] })
  made_for true slot before after same h made = same refl slot before ∙ made
  made_for false None before after same h made = made
  made_for false (Some slot) before after same h made = absurd cc

  -- what a merge made of a record is made of its settings
  pub made_by : (g : Gathered) (r : Termination) (a : Applied) → IsGathered ds g → applied_to r rules g.media (kinds_read g.tails) ≡ Some (a.record, a.filled)
      → outcome_by rules ds r.slot r.settings ≡ Some (record { settings = a.record.settings; filled = a.filled })
  made_by g r a gathered e =
      let found = mapped_from (outcome_of rules r.slot g.media (kinds_read g.tails) r.settings)
      (λ (o : Outcome). ((let x : Termination = record { place = r.place; service = unwrap_or g.media.service r.service; slot = r.slot; settings = o.settings } in x), o.filled)) (a.record, a.filled) e in
      (λ i. outcome_of rules r.slot (sym gathered.media i) (sym gathered.tails i) r.settings) ∙ found.1
      ∙ ap (λ (x : Termination × List FilledStream). Some (let o : Outcome = record { settings = x.0.settings; filled = x.1 } in o)) (sym found.2)
