-- What the functions inside ask of each other: no part of the standard.
pub mod Lent
pub mod Handed
pub mod Each
pub mod Prepared
pub mod Beginning
pub mod Asking
pub mod Acting
pub mod Sharing
pub mod Starting
pub mod Carried
