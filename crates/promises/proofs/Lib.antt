pub mod FormsRead
