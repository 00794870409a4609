-- The text of answers, burst after burst (own).
use Rattle.std.specs.Prelude.{ℕ, List, ◌++◌, length, codes, decimal, flat_map}
use Rattle.gw_engine.specs.declared.datagram.Datagram.{Datagram}

-- D, a peer, a length; numbers without leading zeros
abbrev pub header_text : ℕ → ℕ → List ℕ
header_text peer len = codes "D " ++ decimal peer ++ codes " " ++ decimal len ++ codes "\n"

-- an answer: its header line, its bytes, a line feed
abbrev pub answer_text : Datagram → List ℕ
answer_text d = header_text d.peer (length d.bytes) ++ d.bytes ++ codes "\n"

-- the answers of a burst, and the line `.`
abbrev pub answers_text : List Datagram → List ℕ
answers_text answers = flat_map answer_text answers ++ codes ".\n"

-- the answers of bursts
abbrev pub all_answers_text : List (List Datagram) → List ℕ
all_answers_text bursts = flat_map answers_text bursts
