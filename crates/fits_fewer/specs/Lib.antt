pub mod FitsFewer
