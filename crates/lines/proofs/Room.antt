-- How long each part of a line is at most, as one list for the functions that write lines.
use Rattle.lines.specs.Theorem.Lengths.{two, ten, twenty, eleven, field_length, word_length}

pub ruleset room = (two, ten, twenty, eleven, field_length, word_length)
