pub mod Limits
pub mod Arcs
pub mod Graphs
pub mod Cyclic
pub mod Walks
pub mod Warshall
pub mod ChainLaws
