pub mod FormedTests
