pub mod RuleLines
