pub mod Laying
pub mod Fronts
pub mod Evaluating
