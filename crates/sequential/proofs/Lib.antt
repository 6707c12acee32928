mod Sequences
