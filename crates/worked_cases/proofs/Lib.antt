pub mod Deciding
pub mod Steps
pub mod Clashes
pub mod Arcs
pub mod Stand
