pub mod Cursor
pub mod Laws
pub mod Lexemes
pub mod Automaton
