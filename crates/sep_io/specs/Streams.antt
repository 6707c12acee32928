-- Sources and sinks in memory.
use Rattle.std.specs.Prelude.{ℕ, ◌-◌, ◌==◌, ◌&&◌, not, Bool, if◌then◌else◌, List, drop, length, vec_len}
use Rattle.sep_io.specs.declared.script.Script.{Script}
use Rattle.sep_io.specs.declared.sources.MemSource.{MemSource}
use Rattle.sep_io.specs.declared.sources.WholeSource.{WholeSource}
use Rattle.sep_io.specs.declared.sinks.MemSink.{MemSink}
use Rattle.sep_io.specs.declared.sinks.WholeSink.{WholeSink}
use Rattle.sep_io.specs.Scripts.{fails_now, after_call, after_fault}

-- the bytes that a source has left
abbrev pub mem_left : MemSource → List ℕ
mem_left s = drop s.at s.bytes.items

abbrev pub whole_left : WholeSource → List ℕ
whole_left s = drop s.at s.bytes.items

-- so many bytes has a sink room for
abbrev pub mem_room : MemSink → ℕ
mem_room s = s.room - vec_len s.bytes

abbrev pub whole_room : WholeSink → ℕ
whole_room s = s.room - vec_len s.bytes

-- nothing can be taken of a piece that has bytes
abbrev pub is_full : ℕ → List ℕ → Bool
is_full room piece = room == 0 && not (length piece == 0)

-- the calls and faults of a sink after a write: one that is to fail, one that finds no room, or one that takes bytes
abbrev pub after_write : MemSink → List ℕ → Script
after_write s piece =
    let called = after_call s.script in
    if fails_now s.script then called else (if is_full (mem_room s) piece then after_fault called else called)
