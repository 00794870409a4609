-- What texts of a form begin with, and so what may stand behind what: what a crate above cites where it puts forms together. With
-- `ReaderLaws` these are the proofs of this crate that crates above cite.

-- ---- classes of bytes

-- what holds of the five bytes with which white space begins holds of all such bytes
pub use Rattle.gw_text.proofs.Links.{space_bytes}
-- no white space begins with a safe byte; a digit; a solid byte
pub use Rattle.gw_text.proofs.Links.{safe_apart, digit_apart, solid_apart}
-- a byte of a class with which no white space begins is solid; so is a safe byte; and such a byte, where one byte makes the class
pub use Rattle.gw_text.proofs.Links.{is_solid_by, safe_is_solid}
pub use Rattle.gw_text.proofs.ReadsUp.{byte_is_solid}
-- a digit is a safe byte
pub use Rattle.gw_text.proofs.Links.{digit_is_safe}
-- a byte of a class is another than one that is not of it
pub use Rattle.gw_text.proofs.Links.{is_another}
-- ---- what a text begins with

-- each text of the form begins with a byte of the class
pub use Rattle.gw_text.proofs.ReadsUp.{BeginsWith}
-- more may follow; the class may be wider; there is a byte
pub use Rattle.gw_text.proofs.ReadsUp.{begins_append, begins_wider, begins_some}
-- what begins with one class does not go on with another, nor with a byte or a sign that is not of it
pub use Rattle.gw_text.proofs.Links.{begins_ends, no_byte, begins_no_sign}
-- a run; a word; a number
pub use Rattle.gw_text.proofs.Links.{run_begins, word_begins, word_solid, number_begins, number_solid}
-- a group begins with its brace, a quoted text with its quote, a bracket with its bracket
pub use Rattle.gw_text.proofs.Spans.{group_begins, quoted_begins}
pub use Rattle.gw_text.proofs.BracketLaws.{bracket_begins}
-- lists begin as their first part
pub use Rattle.gw_text.proofs.Lists.{separated_begins}
pub use Rattle.gw_text.proofs.Items.{spaced_begins}
-- ---- texts of two forms

-- such a text, and what follows; it begins as its first part; its second part has another form too
pub use Rattle.gw_text.proofs.ReadsUp.{both_split}
pub use Rattle.gw_text.proofs.Links.{both_begins, with_second}
-- it does not go on with what its first part does not; nor, where that is a sign, with what a sign ends, nor with another sign
pub use Rattle.gw_text.proofs.Links.{both_no_more, both_ends, both_other}
-- ---- signs and white space

-- a sign ends what white space and its byte do not go on with; it is no other sign; at the end there is none
pub use Rattle.gw_text.proofs.Signs.{sign_ends, sign_other, sign_end}
-- a sign is looked for behind white space; where there is none its byte does not come next there; what is left behind it is shorter
pub use Rattle.gw_text.proofs.Signs.{sign_space, sign_none, sign_shrinks}
-- where bytes are taken in any case, they stand there
pub use Rattle.gw_text.proofs.Signs.{prefix_sound}
-- white space ends what it does not go on with; so does white space that must be there; so do a byte and the white space in front of it
pub use Rattle.gw_text.proofs.Links.{space_ends, sep_ends, ahead_ends}
-- no white space is the empty one; a text is white space and what is behind it; a text without it stays, as one that begins with a solid
-- byte; white space alone leaves nothing
pub use Rattle.gw_text.proofs.Skips.{no_space, skip_is, skip_stays}
pub use Rattle.gw_text.proofs.ReadsUp.{skip_solid}
pub use Rattle.gw_text.proofs.Items.{at_end}
-- ---- octets

-- octets as a test, with a flag: whether a `\` stands in front of them
pub use Rattle.gw_text.proofs.OctetsLemmas.{are_octets, octets_are, are_are}
-- ---- steps of a reader

-- values that are the same inside `Some`; a step that found something, and what it found
pub use Rattle.gw_text.proofs.Signs.{some_is}
pub use Rattle.gw_text.proofs.ReadsUp.{bind_some}
