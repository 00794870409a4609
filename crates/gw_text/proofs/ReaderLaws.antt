-- What a crate above shows of its readers, and the laws by which it does: a reader is put together as its form is, line for line of
-- the grammar. Crates above cite this file and `FormLaws`, and no other file of these proofs.

-- ---- what is shown

-- what is read at the front of a text has the form, and each text of the form is read where what may follow it does, from where the
-- reader before it stopped
pub use Rattle.gw_text.proofs.ReadsUp.{ReadsUp}
-- where a reader starts and stops: just there; with the white space skipped; there, but for white space
pub use Rattle.gw_text.proofs.ReadsUp.{Same, Skipped, UpTo}
-- what stops just there, or with the white space skipped, stops there but for white space
pub use Rattle.gw_text.proofs.ReadsUp.{same_up, skipped_up, up_up}
-- anything may follow; nothing is left
pub use Rattle.gw_text.proofs.ReadsUp.{Any}
pub use Rattle.gw_text.proofs.Items.{Ended}
-- what is left is no longer than what there was
pub use Rattle.gw_text.proofs.ReadsUp.{up_shrinks}
-- ---- the same reader, said in other words

-- the form in other words
pub use Rattle.gw_text.proofs.ReadsUp.{up_as}
-- less may follow; it is said less exactly where the reader stops; it starts at fewer places
pub use Rattle.gw_text.proofs.ReadsUp.{up_next, up_to, up_from}
-- a form that begins with no white space is read from where white space was skipped
pub use Rattle.gw_text.proofs.ReadsUp.{up_skipped}
-- ---- one reader behind another

-- a value, and then another that may rest on it; the last value, of which the whole is made; nothing is read
pub use Rattle.gw_text.proofs.ReadsUp.{up_then, up_last, up_done}
-- behind a sign; a sign, and that was all; behind a byte; behind white space, which may be empty
pub use Rattle.gw_text.proofs.ReadsUp.{up_sign, up_close, up_byte, up_space}
-- behind white space that must be there; the same, and that was all
pub use Rattle.gw_text.proofs.Leaves.{up_sep, up_sep_last}
-- ---- one of two readers

-- by whether a sign, a byte, or bytes in any case come next, which are taken
pub use Rattle.gw_text.proofs.ReadsUp.{up_if_sign, up_if_byte, up_if_prefix}
-- by what comes next and is not taken: a byte of a class, just there or from anywhere; a byte behind white space
pub use Rattle.gw_text.proofs.ReadsUp.{up_if_begins, up_if_begins_from, up_if_ahead}
-- ---- words, numbers and texts that are kept as sent

-- a word, and bytes before white space, that stand for a value
pub use Rattle.gw_text.proofs.Leaves.{up_word, up_solid}
-- a UINT32; a number of at most so many digits and at most a limit
pub use Rattle.gw_text.proofs.Leaves.{up_number, up_number_up_to}
-- a quoted text; what is kept of octets
pub use Rattle.gw_text.proofs.OctetsScans.{up_quoted, up_octets}
-- a bracket; a run that stands for a value
pub use Rattle.gw_text.proofs.BracketLaws.{up_bracket, up_run}
-- a group, braces and all
pub use Rattle.gw_text.proofs.Spans.{up_group}
-- ---- lists

-- what is asked of the reader of a part: of a list with commas; of one in braces; of items to the end of the text
pub use Rattle.gw_text.proofs.Lists.{ListsUp, BracesUp}
pub use Rattle.gw_text.proofs.Items.{ItemsUp}
-- what may follow, where no such sign comes next
pub use Rattle.gw_text.proofs.Lists.{NoSign}
-- one or more with commas between them; in braces; in braces, or nothing; in braces, perhaps none
pub use Rattle.gw_text.proofs.Lists.{up_list, up_braced, up_optional, up_braced_or_empty}
-- one or more with white space between them, to the end of the text, with white space there
pub use Rattle.gw_text.proofs.Items.{ToEnd, up_items}
