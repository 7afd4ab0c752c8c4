-- The thesis's rules, a constructor for each under its own name, with document 01's counts; docs/THESIS.md has each as printed and says where they differ.
-- What they derive is in `Theorem`.
pub mod Figure42
pub mod Figure43
pub mod CutOff
pub mod Variational
pub mod Figure56
pub mod Figure58
