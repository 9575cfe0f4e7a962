pub mod Nests
pub mod Plans
pub mod Shaping
pub mod Sets
pub mod Completing
pub mod NestLaws
