-- Which words are a command line.
use Rattle.std.specs.Prelude.{ℕ, false, List, [], ◌∷◌, codes, map, string_bytes, String, Option, Some, None, if◌then◌else◌}
use Rattle.std.specs.Str.{bytes_eq}
use Rattle.sepref_top.specs.declared.words.Command.{Command}
use Rattle.sepref_top.specs.declared.words.Command.TheVariants as command
use Rattle.sepref_top.specs.declared.words.Line.{Line}

-- the command that a word names
abbrev pub command_of_word : List ℕ → Option Command
command_of_word word =
    if bytes_eq word (codes "check") then Some command.Check
    else (if bytes_eq word (codes "synth") then Some command.Synth
    else (if bytes_eq word (codes "eval") then Some command.Eval
    else (if bytes_eq word (codes "run") then Some command.Run
    else (if bytes_eq word (codes "exec") then Some command.Exec
    else (if bytes_eq word (codes "replay") then Some command.Replay
    else (if bytes_eq word (codes "verify") then Some command.Verify
    else None))))))

-- a command with no number, and with what each option is where it is not asked for
abbrev pub plain : Command → Line
plain c = record { command = c; number = 0; heap = 16777216; steps = 100000000; workers = 4; turns = 1000000; listing = false; proof = false }

abbrev pub plain_of : Option Command → Option Line
plain_of None = None
plain_of (Some c) = Some (plain c)

-- a command line is one word
abbrev pub line_of_words : List (List ℕ) → Option Line
line_of_words (word ∷ []) = plain_of (command_of_word word)
line_of_words _ = None

-- what the words after the program's name ask for; none where they are no command line
abbrev pub asked : {A : Type 0} → List (String A) → Option Line
asked words = line_of_words (map string_bytes words)
