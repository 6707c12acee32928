pub mod Rows
pub mod Laying
pub mod Starting
pub mod Unfit
pub mod Fitting
